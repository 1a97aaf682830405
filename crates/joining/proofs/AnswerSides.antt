-- The two sides of the list of answers: fresh ones at the front, each once, older ones at the back, one for each row. A row that gave none yet gives one more.
use Prim.Native.Nat.{ℕ, ◌+◌, ◌-◌, ◌≤◌, ◌<◌}
use native.Mathlib.Omega.{arith}
use native.Mathlib.Decide.{ℕ_discrete}
use mathlib.Core.Path.{◌≡◌, refl, sym, ◌∙◌}
use mathlib.Core.Bool.{true, false}
use mathlib.Core.Logic.{◌⊎◌, inl, inr, ⊎_elim, ◌↔◌}
use mathlib.Core.List.{List}
use lib.ListN.{length, set, get_or}
use lib.Seq.{get_or-set_same, get_or-set_other}
use Rattle.program.specs.Limits.{masks, max_rows}
use Rattle.rows.specs.MaskSet.{Inserted}
use Rattle.joining.specs.Answers.{Listing, Stands}
use Rattle.joining.specs.AnswerSteps.{Sided}
use Rattle.joining.proofs.AnswerLists.{found_none, found_for, found_aside, found_there, found_new, sources_none, sources_for, sources_one, sources_few}

-- no row gave an answer
pub sided_none : {Gives : ℕ → ℕ → Type 0} {since rows : ℕ} {seen answers : List ℕ} → Listing seen answers 0 → ((r q : ℕ) → Gives r q → ⊥)
    → Sided Gives since rows seen answers 0 max_rows
sided_none l none =
    record {
      front = found_none l refl (λ q g. none g.0 q g.2);
      back = λ q. (λ h. absurd (omega (arith, h.1, h.2)), λ g. absurd (none g.0 q g.2));
      most = omega arith;
      sources = sources_none;
    }

-- what rows give, said otherwise
pub sided_for : {Gives Gives' : ℕ → ℕ → Type 0} {since rows : ℕ} {seen answers : List ℕ} {fresh older : ℕ} → ((r q : ℕ) → Gives r q ↔ Gives' r q)
    → Sided Gives since rows seen answers fresh older → Sided Gives' since rows seen answers fresh older
sided_for same d =
    record {
      front = found_for (λ q. (λ g. (g.0, g.1, (same g.0 q).0 g.2), λ g. (g.0, g.1, (same g.0 q).1 g.2))) d.front;
      back = λ q. (
        λ h. let g = (d.back q).0 h in (g.0, g.1, (same g.0 q).0 g.2),
        λ g. (d.back q).1 (g.0, g.1, (same g.0 q).1 g.2),
      );
      most = d.most;
      sources = sources_for (λ x l g. (g.0, (same x g.0).0 g.1)) d.sources;
    }

-- row y gave none yet
module _ {Gives : ℕ → ℕ → Type 0} {since rows : ℕ} {seen answers : List ℕ} {fresh older : ℕ} (d : Sided Gives since rows seen answers fresh older) (few : rows ≤ max_rows)
    {y : ℕ} (there : y < rows) (unused : (q : ℕ) → Gives y q → ⊥) where
  -- each answer has a row of its own, so there is room for one more
  pub room_left : fresh < older
  room_left = omega (arith, sources_few (sources_one y there (λ g. unused g.0 g.1) refl d.sources), d.most)

  module _ {m : ℕ} (small : m < masks) where
    abbrev With : ℕ → ℕ → Type 0
    With r q = Gives r q ⊎ ((r ≡ y) × (q ≡ m))

    -- its answer is at the back
    pub sided_older : y < since → Sided With since rows seen (set answers (older - 1) m) fresh (older - 1)
    sided_older old =
        record {
          front = found_for (λ q. (λ g. (g.0, g.1, inl g.2), λ g. (g.0, g.1, new q g.0 g.1 g.2))) (found_aside (older - 1) m (omega (arith, room_left)) d.front);
          back = λ q. (
            λ h. out q h.0 h.1 h.2 h.3 (ℕ_discrete h.0 (older - 1)),
            λ g. into q g.0 g.1 g.2,
          );
          most = omega (arith, d.most);
          sources =
              sources_for (λ x l. ⊎_elim (λ g. (g.0, inl g.1)) (λ e. (m, inr (e, refl))))
              (sources_one y there (λ g. unused g.0 g.1) (omega (arith, room_left, d.most)) d.sources);
        }
      where
        at : older - 1 < length answers
        at = omega (arith, room_left, d.most, d.front.listing.list_size)

        new : (q r : ℕ) → since ≤ r → With r q → Gives r q
        new q r l (inl g) = g
        new q r l (inr (e, _)) = absurd (omega arith)

        out : (q i : ℕ) → older - 1 ≤ i → i < max_rows → get_or (set answers (older - 1) m) i 0 ≡ q → Dec (i ≡ older - 1) → (r : ℕ) × (r < since) × With r q
        out q i l u e (yes is) = (y, old, inr (refl, sym e ∙ rw is (get_or-set_same answers (older - 1) m 0 at)))
        out q i l u e (no not) =
            let g = (d.back q).0 (i, omega (arith, room_left), u, sym (get_or-set_other answers (older - 1) i m 0 not) ∙ e) in
            (g.0, g.1, inl g.2)

        into : (q r : ℕ) → r < since → With r q → Stands (set answers (older - 1) m) (older - 1) max_rows q
        into q r l (inl g) =
            let h = (d.back q).1 (r, l, g) in
            (h.0, omega (arith, h.1), h.2, get_or-set_other answers (older - 1) h.0 m 0 (λ e. omega (arith, h.1, room_left)) ∙ h.3)
        into q r l (inr (_, e)) = (older - 1, omega arith, omega (arith, room_left, d.most), get_or-set_same answers (older - 1) m 0 at ∙ sym e)

    module _ (new : since ≤ y) where
      front_with : (q : ℕ) → (((r : ℕ) × (since ≤ r) × Gives r q) ⊎ (q ≡ m)) ↔ ((r : ℕ) × (since ≤ r) × With r q)
      front_with q = (⊎_elim (λ g. (g.0, g.1, inl g.2)) (λ e. (y, new, inr (refl, e))), λ g. one g.0 g.1 g.2)
        where
          one : (r : ℕ) → since ≤ r → With r q → ((r : ℕ) × (since ≤ r) × Gives r q) ⊎ (q ≡ m)
          one r l (inl g) = inl (r, l, g)
          one r l (inr (_, e)) = inr e

      back_with : (q r : ℕ) → r < since → With r q → Gives r q
      back_with q r l (inl g) = g
      back_with q r l (inr (e, _)) = absurd (omega arith)

      -- its answer is listed already
      pub sided_there : {seen' : List ℕ} → length seen' ≡ length seen → Inserted seen seen' m false → Sided With since rows seen' answers fresh older
      sided_there size i =
          record {
            front = found_for front_with (found_there d.front small size i);
            back = λ q. (
              λ h. let g = (d.back q).0 h in (g.0, g.1, inl g.2),
              λ g. (d.back q).1 (g.0, g.1, back_with q g.0 g.1 g.2),
            );
            most = d.most;
            sources = sources_for (λ x l g. (g.0, inl g.1)) d.sources;
          }

      -- its answer is new
      pub sided_new : {seen' : List ℕ} → length seen' ≡ length seen → Inserted seen seen' m true → Sided With since rows seen' (set answers fresh m) (fresh + 1) older
      sided_new size i =
          record {
            front = found_for front_with (found_new d.front small size (omega (arith, room_left, d.most)) i);
            back = λ q. (
              λ h. let g = (d.back q).0 (h.0, h.1, h.2, sym (behind h.0 h.1) ∙ h.3) in (g.0, g.1, inl g.2),
              λ g. let h = (d.back q).1 (g.0, g.1, back_with q g.0 g.1 g.2) in (h.0, h.1, h.2, behind h.0 h.1 ∙ h.3),
            );
            most = d.most;
            sources =
                sources_for (λ x l. ⊎_elim (λ g. (g.0, inl g.1)) (λ e. (m, inr (e, refl))))
                (sources_one y there (λ g. unused g.0 g.1) (omega (arith, room_left)) d.sources);
          }
        where
          behind : (k : ℕ) → older ≤ k → get_or (set answers fresh m) k 0 ≡ get_or answers k 0
          behind k l = get_or-set_other answers fresh k m 0 (λ e. omega (arith, room_left))
