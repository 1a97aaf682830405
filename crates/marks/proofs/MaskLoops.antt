-- Loops over the variables of a mask, one bit at a time: what is done is what was asked and is no longer left.
use Prim.Native.Nat.{ℕ, ◌+◌, ◌-◌, ◌^◌, ◌<◌}
use native.Mathlib.Omega.{arith}
use native.Mathlib.Decide.{ℕ_discrete}
use mathlib.Core.Path.{◌≡◌, refl, sym, subst}
use mathlib.Core.Logic.{◌↔◌, ◌⊎◌, inl, inr, ⊎_elim}
use mathlib.Core.List.{List}
use lib.ListN.{get_or}
use lib.Bits.{bit_or}
use Rattle.terms.specs.Cells.{variables}
use Rattle.terms.specs.Mask.{Has, Marks}
use Rattle.terms.proofs.Masks.{has_none, has_or, has_one}
use Rattle.terms.proofs.Without.{without_bit}

abbrev pub Done : ℕ → ℕ → ℕ → Type 0
Done asked left y = Has asked y × (Has left y → ⊥)

-- what is left was asked
abbrev pub Within : ℕ → ℕ → Type 0
Within asked left = (y : ℕ) → Has left y → Has asked y

pub within_without : (asked left x : ℕ) → Has left x → Within asked left → Within asked (left - 2 ^ x)
within_without asked left x h w y b = w y ((without_bit left x h y).0 b).0

-- a turn does one variable more
pub done_one_more : (asked left x : ℕ) → Has left x → Within asked left → (y : ℕ) → Done asked (left - 2 ^ x) y ↔ (Done asked left y ⊎ (y ≡ x))
done_one_more asked left x h w y = (λ d. at d (ℕ_discrete y x), ⊎_elim earlier now)
  where
    at : Done asked (left - 2 ^ x) y → Dec (y ≡ x) → Done asked left y ⊎ (y ≡ x)
    at d (yes e) = inr e
    at d (no n) = inl (d.0, λ b. d.1 ((without_bit left x h y).1 (b, n)))

    earlier : Done asked left y → Done asked (left - 2 ^ x) y
    earlier d = (d.0, λ b. d.1 ((without_bit left x h y).0 b).0)

    now : y ≡ x → Done asked (left - 2 ^ x) y
    now e = (rw e (w x h), λ b. ((without_bit left x h y).0 b).1 e)

-- the union of the sets of the variables that are done
abbrev pub Gathered : List ℕ → ℕ → ℕ → ℕ → ℕ → Type 0
Gathered sets base asked left all = Marks (λ z. (x : ℕ) × Done asked left x × Has (get_or sets (base + x) 0) z) all

pub gathered_none : (sets : List ℕ) (base asked : ℕ) → Gathered sets base asked asked 0
gathered_none sets base asked z = (λ b. absurd (has_none z b), λ g. absurd (g.1.1 g.1.0))

pub gathered_more : (sets : List ℕ) (base asked left all x : ℕ) → Has left x → Within asked left → Gathered sets base asked left all
    → Gathered sets base asked (left - 2 ^ x) (bit_or all (get_or sets (base + x) 0))
gathered_more sets base asked left all x h w g z = (
  λ b. ⊎_elim
      (λ k. let e = (g z).0 k in (e.0, (done_one_more asked left x h w e.0).1 (inl e.1), e.2))
      (λ k. (x, (done_one_more asked left x h w x).1 (inr refl), k))
      ((has_or all (get_or sets (base + x) 0) z).0 b),
  λ e. (has_or all (get_or sets (base + x) 0) z).1 (
      ⊎_elim
      (λ d. inl ((g z).1 (e.0, d, e.2)))
      (λ q. inr (subst (λ (v : ℕ). Has (get_or sets (base + v) 0) z) q e.2))
      ((done_one_more asked left x h w e.0).0 e.1)),
)

-- the variables that are done and of which `In` holds
abbrev pub Sorted : (ℕ → Type 0) → ℕ → ℕ → ℕ → Type 0
Sorted In asked left mask = Marks (λ y. Done asked left y × In y) mask

sorted_none : (In : ℕ → Type 0) (asked : ℕ) → Sorted In asked asked 0
sorted_none In asked y = (λ b. absurd (has_none y b), λ s. absurd (s.0.1 s.0.0))

module _ (In : ℕ → Type 0) (asked left mask x : ℕ) (h : Has left x) (w : Within asked left) (s : Sorted In asked left mask) where
  sorted_in : In x → Sorted In asked (left - 2 ^ x) (bit_or mask (2 ^ x))
  sorted_in i y = (
    λ b. ⊎_elim
        (λ k. let e = (s y).0 k in ((done_one_more asked left x h w y).1 (inl e.0), e.1))
        (λ k. let q = (has_one x y).0 k in ((done_one_more asked left x h w y).1 (inr q), subst In (sym q) i))
        ((has_or mask (2 ^ x) y).0 b),
    λ e. (has_or mask (2 ^ x) y).1 (
        ⊎_elim (λ d. inl ((s y).1 (d, e.1))) (λ q. inr ((has_one x y).1 q)) ((done_one_more asked left x h w y).0 e.0)),
  )

  sorted_out : (In x → ⊥) → Sorted In asked (left - 2 ^ x) mask
  sorted_out o y = (
    λ b. let e = (s y).0 b in ((done_one_more asked left x h w y).1 (inl e.0), e.1),
    λ e. ⊎_elim (λ d. (s y).1 (d, e.1)) (λ q. absurd (o (subst In q e.1))) ((done_one_more asked left x h w y).0 e.0),
  )

-- the variables asked for, one by one: those that are done and of which `In` holds are in `mask`, and some are left
pub record Sorting (In : ℕ → Type 0) (asked left mask : ℕ) : Type 0 where
  pub small : left < 2 ^ variables
  pub was_asked : Within asked left
  pub sorted : Sorted In asked left mask

pub sorting_none : (In : ℕ → Type 0) (asked : ℕ) → asked < 2 ^ variables → Sorting In asked asked 0
sorting_none In asked small = record { small = small; was_asked = λ y b. b; sorted = sorted_none In asked }

module _ (In : ℕ → Type 0) (asked left mask x : ℕ) (h : Has left x) (s : Sorting In asked left mask) where
  pub sorting_in : In x → Sorting In asked (left - 2 ^ x) (bit_or mask (2 ^ x))
  sorting_in i =
      record {
        small = omega (arith, s.small);
        was_asked = within_without asked left x h s.was_asked;
        sorted = sorted_in In asked left mask x h s.was_asked s.sorted i;
      }

  pub sorting_out : (In x → ⊥) → Sorting In asked (left - 2 ^ x) mask
  sorting_out n =
      record {
        small = omega (arith, s.small);
        was_asked = within_without asked left x h s.was_asked;
        sorted = sorted_out In asked left mask x h s.was_asked s.sorted n;
      }
