-- Demands 1 and 2 of the promise of any analysis that computes: by cases of the promise, from the laws on its table.
use Prim.Native.Nat.{ℕ}
use native.Mathlib.Omega.{arith}
use mathlib.Core.Path.{◌≡◌, refl, ap, subst}
use mathlib.Core.Logic.{◌↔◌}
use mathlib.Core.List.{List}
use lib.ListN.{replicate}
use Rattle.program.specs.Faults.{Found, fault, sound}
use Rattle.program.specs.Reply.{accepted, no_room, withdrawn}
use Rattle.program.specs.declared.reply.Reply.{Reply}
use Rattle.program.proofs.FaultNumbers.{FaultNumber}
use Rattle.program.proofs.FoundLaws.{fault_or_sound, sound_same}
use Rattle.table.specs.Analysis.{Analysis, room_of, Exceeds}
use Rattle.table.specs.Promise.{PromiseOf, faulty, listed, full}
use Rattle.table.proofs.Tables.{Computes, least_listed, rows_once, rounds_below}
use Rattle.table.proofs.PromiseLaws.{refusal_zeros, other_never, one_reply, no_room_exceeds, some_reply}
use Rattle.demands.specs.LeastTable.{LeastTable}
use Rattle.demands.specs.Promises.{Larger}
use Rattle.demands.specs.Replies.{Replies}

module _ {X : Type 0} (analysis : X → Analysis) (computes : (p : X) → Computes (analysis p)) (found : Found X) (size : ℕ) where
  module _ (p : X) (says : found ≡ sound p) (reply : Reply) (table : List ℕ) where
    pub accepted_least : PromiseOf analysis found size reply table → reply.number ≡ accepted → LeastTable (analysis p) size reply table
    accepted_least (faulty n q f e z) number-0 = absurd (fault_or_sound _ f says)
    accepted_least (full p' f h e z) number-0 = absurd (let b : no_room ≡ accepted = rw e at number-0 in omega arith)
    accepted_least (listed p' entries f t l e z) number-0 =
        subst (λ (q : X). LeastTable (analysis q) size reply table) (sound_same _ f says)
        record {
          entries = entries;
          count_is = ap (λ (r : Reply). r.count) e;
          words_are = z;
          same_rows = least_listed (analysis p') (computes p') entries t;
          rounds = t.only;
          ascending = t.ascending;
          once = rows_once (analysis p') (computes p') entries t;
          below = rounds_below (analysis p') (computes p') entries t;
        }

    pub room_accepted : PromiseOf analysis found size reply table → (Exceeds (analysis p) (room_of (analysis p).size size) → ⊥) → reply.number ≡ accepted
    room_accepted (faulty n q f e z) room = absurd (fault_or_sound _ f says)
    room_accepted (listed p' entries f h l e z) room = ap (λ (r : Reply). r.number) e
    room_accepted (full p' f h e z) room = absurd (room (rw (sound_same _ f says) at h))

    -- what is sound is refused only where there is no room
    pub sound_refused : PromiseOf analysis found size reply table → (reply.number ≡ accepted → ⊥) → reply.number ≡ no_room
    sound_refused (faulty n q f e z) h = absurd (fault_or_sound _ f says)
    sound_refused (listed p' entries f k l e z) h = absurd (h (ap (λ (r : Reply). r.number) e))
    sound_refused (full p' f k e z) h = ap (λ (r : Reply). r.number) e

  -- the faults of the input have numbers of faults
  module _ (numbers : (number place : ℕ) → found ≡ fault number place → FaultNumber number) where
    pub tabling_replies : Replies (PromiseOf analysis found size) (replicate size 0) (Larger analysis found size)
    tabling_replies =
        let (r, t, promised) = some_reply analysis found size computes in
        record {
          reply = r;
          left = t;
          promised = promised;
          only = λ r' t' promised'. one_reply analysis found size computes r' r t' t promised' promised;
          accepted_place = place r t promised;
          refused_zeros = λ n. let (z, c) = refusal_zeros analysis found size r t promised n in (c, z);
          no_room_exactly = room r t promised;
          never_withdrawn = other_never analysis found size withdrawn (λ n q f e. (numbers n q f).2 e) (λ e. omega arith) (λ e. omega arith) r t promised;
        }
      where
        place : (r : Reply) (t : List ℕ) → PromiseOf analysis found size r t → r.number ≡ accepted → r.place ≡ 0
        place r t (faulty n q f e z) d = absurd (let b : n ≡ accepted = rw e at d in omega (arith, (numbers n q f).0))
        place r t (listed p entries f h l e z) d = ap (λ (r : Reply). r.place) e
        place r t (full p f h e z) d = absurd (let b : no_room ≡ accepted = rw e at d in omega arith)

        room : (r : Reply) (t : List ℕ) → PromiseOf analysis found size r t → (r.number ≡ no_room) ↔ Larger analysis found size
        room r t promised = at found refl
          where
            at : (o : Found X) → found ≡ o → (r.number ≡ no_room) ↔ Larger analysis found size
            at (fault n q) e = (
              λ d. absurd ((numbers n q e).1 (rw (one_reply analysis found size computes r _ t _ promised (faulty n q e refl refl)).0 at d)),
              λ (p, s, m). absurd (fault_or_sound _ e s),
            )
            at (sound p) e =
                (λ d. (p, e, (no_room_exceeds analysis found size computes p e r t promised).0 d), λ (p', s, m). (no_room_exceeds analysis found size computes p' s r t promised).1 m)
