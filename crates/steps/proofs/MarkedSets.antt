-- Sets of marks on a clause's head: none more, one more, some and then others, and the same by another name.
use Prim.Native.Nat.{ℕ}
use mathlib.Core.Path.{◌≡◌}
use mathlib.Core.Bool.{Bool}
use mathlib.Core.Logic.{◌⊎◌, inl, inr, ⊎_elim, ◌↔◌}
use mathlib.Core.List.{List}
use lib.ListN.{length}
use Rattle.rows.specs.MaskSet.{set_words, Inserted}
use Rattle.steps.specs.Heads.{Collected}

-- marks by another name
pub marked_same : {P Q : ℕ → Type 0} (found found' : List ℕ) → ((N : ℕ) → P N ↔ Q N) → Collected P found found' → Collected Q found found'
marked_same found found' same m =
    record {
      size = m.size;
      members = λ q l. (
        λ h. ⊎_elim inl (λ o. inr ((same q).0 o)) ((m.members q l).0 h),
        λ h. (m.members q l).1 (⊎_elim inl (λ o. inr ((same q).1 o)) h),
      );
    }

-- no marks
pub marked_none : {P : ℕ → Type 0} (found : List ℕ) → length found ≡ set_words → ((N : ℕ) → P N → ⊥) → Collected P found found
marked_none found size none = record { size = size; members = λ q l. (inl, ⊎_elim (λ h. h) (λ h. absurd (none q h))) }

-- some marks after others
pub marked_then : {P Q : ℕ → Type 0} (found found' found'' : List ℕ) → Collected P found found' → Collected Q found' found'' → Collected (λ N. P N ⊎ Q N) found found''
marked_then {P} {Q} found found' found'' m m' =
    record {
      size = m'.size;
      members = λ q l. (
        λ h. ⊎_elim (λ h'. ⊎_elim inl (λ o. inr (inl o)) ((m.members q l).0 h')) (λ o. inr (inr o)) ((m'.members q l).0 h),
        λ h. (m'.members q l).1 (⊎_elim (λ h'. inl ((m.members q l).1 (inl h'))) (⊎_elim (λ o. inl ((m.members q l).1 (inr o))) inr) h),
      );
    }

-- one mark
pub marked_one : (found found' : List ℕ) (q : ℕ) (b : Bool) → length found' ≡ set_words → Inserted found found' q b → Collected (λ N. N ≡ q) found found'
marked_one found found' q b size i = record { size = size; members = λ N l. i.members N }
