-- Demand 1 of `analyse` and of `list`, from the laws on their promises: met, and by one reply alone.
use Prim.Native.Nat.{ℕ, ◌+◌, ◌<◌}
use native.Mathlib.Omega.{arith}
use mathlib.Core.Path.{ap₂, ◌≡◌, refl, sym, ap, ◌∙◌, subst}
use mathlib.Core.Logic.{◌⊎◌, inl, inr, ◌↔◌}
use mathlib.Core.List.{List}
use lib.ListN.{length, replicate}
use Rattle.program.specs.Program.{Program}
use Rattle.program.specs.Faults.{sound, faults}
use Rattle.program.specs.Reply.{accepted, no_room, withdrawn}
use Rattle.program.specs.declared.reply.Reply.{Reply}
use Rattle.program.proofs.FaultNumbers.{FaultNumber, fault_number}
use Rattle.table.specs.Table.{mode_analysis, Entry, room_in, TableOf, MoreThan}
use Rattle.program.proofs.FoundLaws.{fault_or_sound, sound_same}
use Rattle.table.proofs.Promise.{modes_computes, table_once, no_room_more, never_withdrawn}
use Rattle.cells.specs.TextSoFar.{right}
use Rattle.cells.proofs.Readings.{wrong_or_right}
use Rattle.lister.specs.Listing.{listing_of}
use Rattle.lister.specs.ListingPromise.{names_for, Refused, ListingPromise, faulty, misnamed, unlisted, over, listed}
use Rattle.lister.proofs.ListedOnce.{listed_unique, listed_met}
use Rattle.round_trips.proofs.ReadFaults.{FaultyBy}
use Rattle.round_trips.proofs.WriteFaults.{names_faults}
use Rattle.demands.specs.Promises.{Analyses, AnalyseLarger, Lists, ListLarger}
use Rattle.demands.specs.Replies.{Replies}
use Rattle.demands.proofs.LeastTables.{sound_refused, tabling_replies}

numbers : {r r' : Reply} → r ≡ r' → r.number ≡ r'.number
numbers e = ap (λ (r : Reply). r.number) e

pub analysing_replies : (words : List ℕ) (size : ℕ) → Replies (Analyses words size) (replicate size 0) (AnalyseLarger words size)
analysing_replies words size = tabling_replies mode_analysis modes_computes (faults words) size (fault_number words)

module _ (words names : List ℕ) (size room : ℕ) where
  abbrev list_zeros : List ℕ × List ℕ
  list_zeros = (replicate size 0, replicate room 0)

  -- what is said of a reply, a table and a listing
  record ListAnswer (r : Reply) (t o : List ℕ) : Type 0 where
    place : r.number ≡ accepted → r.place ≡ 0
    zeros : (r.number ≡ accepted → ⊥) → (r.count ≡ 0) × (t ≡ replicate size 0) × (o ≡ replicate room 0)
    room_is : (r.number ≡ no_room) ↔ ListLarger words names size room
    ten : r.number ≡ withdrawn → ⊥

  refusal : {n q : ℕ} {r : Reply} {t o : List ℕ} → Refused size room n q r t o → (n ≡ accepted → ⊥) → (n ≡ no_room) ↔ ListLarger words names size room → (n ≡ withdrawn → ⊥)
      → ListAnswer r t o
  refusal z h (to, from) ten = record {
    place = λ d. absurd (h (sym (numbers z.reply_is) ∙ d));
    zeros = λ _. (ap (λ (r : Reply). r.count) z.reply_is, z.table_zero, z.out_zero);
    room_is = (λ d. to (sym (numbers z.reply_is) ∙ d), λ l. numbers z.reply_is ∙ from l);
    ten = λ d. ten (sym (numbers z.reply_is) ∙ d);
  }

  list_answer : (r : Reply) (t o : List ℕ) → ListingPromise words names size room r t o → ListAnswer r t o
  list_answer r t o (faulty n q f z) =
      let h = fault_number words n q f in refusal z (λ d. omega arith) (λ d. absurd (omega arith), λ (p, s, m, l). absurd (fault_or_sound _ f s)) h.2
  list_answer r t o (misnamed p n q f w z) = refusal z (λ d. omega (arith, h.0)) (λ d. absurd (h.1 d), λ (p', s, m, l). absurd (named p' s m)) h.2
    where
      h : FaultNumber n
      h = subst FaultyBy w (names_faults names (length p.predicates) (length p.predicates + length p.functions))

      named : (p' : Program) → faults words ≡ sound p' → names_for p' names ≡ right names → ⊥
      named p' s m = wrong_or_right _ (rw (sound_same _ f s) at w) m
  list_answer r t o (unlisted p n q ze f w a d z) =
      refusal z d (λ e. (p, f, w, inl ((no_room_more words size _ ze p f a).0 e)), λ _. sound_refused mode_analysis modes_computes (faults words) size p f _ ze a d) (never_withdrawn words size _ ze a)
  list_answer r t o (over p es fu a l z) =
      refusal z (λ d. omega arith) (λ _. (p, a.program, a.named, inr (es, a.rows, l)), λ _. refl) (λ d. omega arith)
  list_answer r t o (listed p es a l e g) = record {
    place = λ _. ap (λ (r : Reply). r.place) e;
    zeros = λ n. absurd (n (numbers e));
    room_is = (λ d. absurd (let b : accepted ≡ no_room = sym (numbers e) ∙ d in omega arith), λ (p', s, m, x). absurd (larger p' s x));
    ten = λ d. absurd (let b : accepted ≡ withdrawn = sym (numbers e) ∙ d in omega arith);
  }
    where
      larger : (p' : Program) → faults words ≡ sound p'
          → MoreThan p' (room_in size) ⊎ ((es' : List Entry) × TableOf p' es' × (room < length (listing_of p' names es'))) → ⊥
      larger p' s (inl more) = let b : accepted ≡ no_room = (no_room_more words size _ t p' s a.analysed).1 more in omega arith
      larger p' s (inr (es', h, more)) =
          let same = sound_same _ a.program s in
          let one = table_once p' es es' (rw same at a.rows) h in
          let k : length (listing_of p names es) ≡ length (listing_of p' names es') = ap₂ (λ (q : Program) (f : List Entry). length (listing_of q names f)) same one in
          omega arith

  pub listing_replies : Replies (Lists words names size room) list_zeros (ListLarger words names size room)
  listing_replies =
      let (r, t, o, promised) = listed_met words names size room in
      let all = list_answer r t o promised in
      record {
        reply = r;
        left = (t, o);
        promised = promised;
        only = λ r' left promised'. let (e, f, g) = listed_unique words names size room r' r left.0 t left.1 o promised' promised in (e, λ i. (f i, g i));
        accepted_place = all.place;
        refused_zeros = λ n. let (c, f, g) = all.zeros n in (c, λ i. (f i, g i));
        no_room_exactly = all.room_is;
        never_withdrawn = all.ten;
      }
