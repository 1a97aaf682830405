-- The answers at the back are settled, place by place: each is listed behind the others where it is new. What is read is as it was, since the list grows no faster than the places.
use Prim.Native.Nat.{ℕ, ◌+◌, ◌≤◌, ◌<◌}
use native.Mathlib.Omega.{arith}
use native.Mathlib.Decide.{ℕ_discrete}
use mathlib.Core.Path.{◌≡◌, refl, sym, ◌∙◌}
use mathlib.Core.Bool.{true, false}
use mathlib.Core.Logic.{◌⊎◌, inl, inr, ⊎_elim, ◌↔◌}
use mathlib.Core.List.{List}
use lib.ListN.{length, set, get_or}
use lib.Seq.{get_or-set_other}
use Rattle.program.specs.Limits.{masks, max_rows}
use Rattle.rows.specs.MaskSet.{Inserted}
use Rattle.joining.specs.Answers.{Found, Stands, SettleAsked}
use Rattle.joining.proofs.AnswerLists.{found_none, found_for, found_there, found_new}

-- the answers at the back before place i are settled
pub record Settled (answers₀ : List ℕ) (fresh older : ℕ) (seen answers : List ℕ) (all i : ℕ) : Type 0 where
  pub late : older ≤ i
  pub within : i ≤ max_rows
  pub room : all ≤ i
  pub rest : (k : ℕ) → i ≤ k → get_or answers k 0 ≡ get_or answers₀ k 0
  pub found : Found (Stands answers₀ older i) seen answers fresh all answers₀

module _ {seen₀ answers₀ : List ℕ} {fresh older : ℕ} (w : SettleAsked seen₀ answers₀ fresh older) where
  pub settled_none : Settled answers₀ fresh older seen₀ answers₀ fresh older
  settled_none =
      record {
        late = omega arith;
        within = w.most;
        room = w.room;
        rest = λ k l. refl;
        found = found_none w.listing refl (λ q h. omega (arith, h.1, h.2));
      }

  module _ {seen answers : List ℕ} {all i : ℕ} (k : Settled answers₀ fresh older seen answers all i) (h : i < max_rows) where
    pub place_there : i < length answers
    place_there = omega (arith, k.found.listing.list_size)

    -- one place more
    one_more_law : (q : ℕ) → (Stands answers₀ older i q ⊎ (q ≡ get_or answers i 0)) ↔ Stands answers₀ older (i + 1) q
    one_more_law q = (
      ⊎_elim (λ s. (s.0, s.1, omega (arith, s.2), s.3)) (λ e. (i, k.late, omega arith, sym (k.rest i (omega arith)) ∙ sym e)),
      λ s. at s.0 s.1 s.2 s.3 (ℕ_discrete s.0 i),
    )
      where
        at : (x : ℕ) → older ≤ x → x < i + 1 → get_or answers₀ x 0 ≡ q → Dec (x ≡ i) → Stands answers₀ older i q ⊎ (q ≡ get_or answers i 0)
        at x l u e (yes is) = inr (sym e ∙ rw is (sym (k.rest i (omega arith))))
        at x l u e (no not) = inl (x, l, omega arith, e)

    module _ (small : get_or answers i 0 < masks) {seen' : List ℕ} (size : length seen' ≡ length seen) where
      pub settled_there : Inserted seen seen' (get_or answers i 0) false → Settled answers₀ fresh older seen' answers all (i + 1)
      settled_there t =
          record {
            late = omega (arith, k.late);
            within = omega arith;
            room = omega (arith, k.room);
            rest = λ x l. k.rest x (omega arith);
            found = found_for one_more_law (found_there k.found small size t);
          }

      pub settled_new : Inserted seen seen' (get_or answers i 0) true → Settled answers₀ fresh older seen' (set answers all (get_or answers i 0)) (all + 1) (i + 1)
      settled_new t =
          record {
            late = omega (arith, k.late);
            within = omega arith;
            room = omega (arith, k.room);
            rest = λ x l. get_or-set_other answers all x (get_or answers i 0) 0 (λ e. omega (arith, k.room)) ∙ k.rest x (omega arith);
            found = found_for one_more_law (found_new k.found small size (omega (arith, k.room)) t);
          }

  pub settled_all : {seen answers : List ℕ} {all i : ℕ} → Settled answers₀ fresh older seen answers all i → max_rows ≤ i → Found (Stands answers₀ older max_rows) seen answers fresh all answers₀
  settled_all k l = found_for (λ q. (λ s. (s.0, s.1, omega (arith, s.2, k.within), s.3), λ s. (s.0, s.1, omega (arith, s.2), s.3))) k.found
