-- The promise of an analysis that computes: no second reply and no second table meet it, for every input some do, and what each reply says.
use Prim.Native.Nat.{ℕ, ◌≤◌, ◌-◌, ◌*◌}
use native.Mathlib.Omega.{arith}
use native.Mathlib.Decide.{dec_le}
use mathlib.Core.Path.{◌≡◌, refl, sym, ap, subst, ◌∙◌}
use mathlib.Core.Logic.{◌⊎◌, inl, inr, ◌↔◌}
use mathlib.Core.List.{List, ◌++◌}
use lib.ListN.{length, replicate}
use Rattle.program.specs.Reply.{accepted, no_room, done}
use Rattle.program.specs.Faults.{Found, fault, sound}
use Rattle.program.specs.declared.reply.Reply.{Reply}
use Rattle.program.proofs.FoundLaws.{fault_or_sound, sound_same}
use Rattle.table.specs.Analysis.{Analysis, Dated, all_words, room_of, IsTable, Exceeds}
use Rattle.table.specs.Promise.{PromiseOf, faulty, listed, full}
use Rattle.table.proofs.Tables.{Computes, one_table, exceeds_length, fits_or_exceeds, table_or_exceeds}

module _ {X : Type 0} (analysis : X → Analysis) (found : Found X) (size : ℕ) where
  -- number 0 is a table of exactly the least set, and zeros behind it; a fault's number is not 0
  pub accepted_is_table : ((number place : ℕ) → found ≡ fault number place → number ≡ accepted → ⊥) → (r : Reply) (t : List ℕ) → PromiseOf analysis found size r t → r.number ≡ accepted
      → (p : X) × (entries : List (Dated (analysis p).Row)) × (found ≡ sound p) × IsTable (analysis p) entries × (r ≡ done (length entries))
      × (t ≡ all_words (analysis p).words entries ++ replicate (size - (analysis p).size * length entries) 0)
  accepted_is_table numbers r t (faulty n q f e z) d = absurd (numbers n q f (rw e at d))
  accepted_is_table numbers r t (listed p entries f h l e z) d = (p, entries, f, h, e, z)
  accepted_is_table numbers r t (full p f h e z) d = absurd (let b : no_room ≡ accepted = rw e at d in omega arith)

  -- "Every refusal zeroes all lent output", and counts nothing
  pub refusal_zeros : (r : Reply) (t : List ℕ) → PromiseOf analysis found size r t → (r.number ≡ accepted → ⊥) → (t ≡ replicate size 0) × (r.count ≡ 0)
  refusal_zeros r t (faulty n q f e z) d = (z, ap (λ (x : Reply). x.count) e)
  refusal_zeros r t (listed p entries f h l e z) d = absurd (d (ap (λ (x : Reply). x.number) e))
  refusal_zeros r t (full p f h e z) d = (z, ap (λ (x : Reply). x.count) e)

  -- a number that is neither a fault's nor accepted nor "no room" never comes
  pub other_never : (number : ℕ) → ((number' place : ℕ) → found ≡ fault number' place → number' ≡ number → ⊥) → (accepted ≡ number → ⊥) → (no_room ≡ number → ⊥)
      → (r : Reply) (t : List ℕ) → PromiseOf analysis found size r t → r.number ≡ number → ⊥
  other_never number faults zero nine r t (faulty n q f e z) d = faults n q f (rw e at d)
  other_never number faults zero nine r t (listed p entries f h l e z) d = zero (rw e at d)
  other_never number faults zero nine r t (full p f h e z) d = nine (rw e at d)

  module _ (computes : (p : X) → Computes (analysis p)) where
    -- "show that no second reply satisfies it": and no second table
    pub one_reply : (r r' : Reply) (t t' : List ℕ) → PromiseOf analysis found size r t → PromiseOf analysis found size r' t' → (r ≡ r') × (t ≡ t')
    one_reply r r' t t' (faulty n q f e z) (faulty n' q' f' e' z') = (cc, z ∙ sym z')
    one_reply r r' t t' (faulty n q f e z) (listed p es f' h l e' z') = absurd (fault_or_sound _ f f')
    one_reply r r' t t' (faulty n q f e z) (full p f' h e' z') = absurd (fault_or_sound _ f f')
    one_reply r r' t t' (listed p es f h l e z) (faulty n q f' e' z') = absurd (fault_or_sound _ f' f)
    one_reply r r' t t' (listed p es f h l e z) (listed p' es' f' h' l' e' z') = at p' (sound_same _ f f') es' h' e' z'
      where
        at : (p' : X) → p ≡ p' → (es' : List (Dated (analysis p').Row)) → IsTable (analysis p') es' → r' ≡ done (length es')
            → t' ≡ all_words (analysis p').words es' ++ replicate (size - (analysis p').size * length es') 0 → (r ≡ r') × (t ≡ t')
        at p' same = subst (λ (q : X). (es' : List (Dated (analysis q).Row)) → IsTable (analysis q) es' → r' ≡ done (length es')
            → t' ≡ all_words (analysis q).words es' ++ replicate (size - (analysis q).size * length es') 0 → (r ≡ r') × (t ≡ t'))
            same (λ es' h' e' z'. let one = one_table (analysis p) es es' h h' in (cc, cc))
    one_reply r r' t t' (listed p es f h l e z) (full p' f' h' e' z') =
        absurd (fits_or_exceeds (analysis p) (computes p) es h (room_of (analysis p).size size) l (rw (sound_same _ f' f) at h'))
    one_reply r r' t t' (full p f h e z) (faulty n q f' e' z') = absurd (fault_or_sound _ f' f)
    one_reply r r' t t' (full p f h e z) (listed p' es' f' h' l' e' z') =
        absurd (fits_or_exceeds (analysis p') (computes p') es' h' (room_of (analysis p').size size) l' (rw (sound_same _ f f') at h))
    one_reply r r' t t' (full p f h e z) (full p' f' h' e' z') = (e ∙ rw (sound_same _ f f') (sym e'), z ∙ sym z')

    -- "no room" exactly where the least set has more rows than the room; a fault's number is not that
    pub no_room_exceeds : (p : X) → found ≡ sound p → (r : Reply) (t : List ℕ) → PromiseOf analysis found size r t
        → (r.number ≡ no_room) ↔ Exceeds (analysis p) (room_of (analysis p).size size)
    no_room_exceeds p s r t (faulty n q f e z) = absurd (fault_or_sound _ f s)
    no_room_exceeds p s r t (listed p' es f h l e z) = (
      λ d. absurd (let b : ◌≡◌ {A = ℕ} 0 no_room = rw e at d in omega arith),
      λ m. absurd (fits_or_exceeds (analysis p') (computes p') es h (room_of (analysis p').size size) l (rw (sound_same _ s f) at m)),
    )
    no_room_exceeds p s r t (full p' f h e z) = (λ d. rw (sound_same _ s f) h, λ m. ap (λ (x : Reply). x.number) e)

    -- "For all inputs, refused ones too, a public function's promise determines reply and every lent word afterwards": it has a reply and a table
    pub some_reply : (r : Reply) × (t : List ℕ) × PromiseOf analysis found size r t
    some_reply = at found refl
      where
        fits : (p : X) → found ≡ sound p → (entries : List (Dated (analysis p).Row)) → IsTable (analysis p) entries
            → Dec (length entries ≤ room_of (analysis p).size size) → (r : Reply) × (t : List ℕ) × PromiseOf analysis found size r t
        fits p e entries table (yes l) = (_, _, listed p entries e table l refl refl)
        fits p e entries table (no g) = (_, _, full p e ((exceeds_length (analysis p) (computes p) entries table (room_of (analysis p).size size)).1 (omega arith)) refl refl)

        tabled : (p : X) → found ≡ sound p → ((entries : List (Dated (analysis p).Row)) × IsTable (analysis p) entries) ⊎ Exceeds (analysis p) (room_of (analysis p).size size)
            → (r : Reply) × (t : List ℕ) × PromiseOf analysis found size r t
        tabled p e (inl (entries, table)) = fits p e entries table (dec_le (length entries) (room_of (analysis p).size size))
        tabled p e (inr exceeds) = (_, _, full p e exceeds refl refl)

        at : (f : Found X) → found ≡ f → (r : Reply) × (t : List ℕ) × PromiseOf analysis found size r t
        at (fault n q) e = (_, _, faulty n q e refl refl)
        at (sound p) e = tabled p e (table_or_exceeds (analysis p) (computes p) (room_of (analysis p).size size))
