-- From one space of variables to two atoms whose variables are kept apart: number A's variables by l and B's by r, and a strong
-- solution of the numbered atoms is a most general unifier. So two atoms are apart or have a most general unifier, never both.
use Prim.Native.Nat.{ℕ, suc, ◌+◌, ◌<◌}
use native.Mathlib.Omega.{arith}
use native.Mathlib.Decide.{ℕ_discrete}
use mathlib.Core.Path.{◌≡◌, refl, sym, ap, ◌∙◌}
use mathlib.Core.Logic.{◌⊎◌, inl, inr}
use Rattle.terms.specs.Term.{Term, var, Subst, sub, comp, All, Occ}
use Rattle.terms.specs.Unifier.{Unifies, Apart, MostGeneral}
use Rattle.terms.proofs.Substs.{sub_comp, sub_agree, all_occ}
use Rattle.terms.proofs.Solutions.{Solution}
use Rattle.terms.proofs.Variables.{Some, some_decided}
use Rattle.terms.proofs.Unify.{Unified, unify}

-- an atom with its variables numbered anew
abbrev pub numbered : Term → (ℕ → ℕ) → Term
numbered A f = sub A (λ v. var (f v))

-- different variables of the atom get different numbers
abbrev pub OneToOne : Term → (ℕ → ℕ) → Type 0
OneToOne A f = (x x' : ℕ) → Occ x A → Occ x' A → f x ≡ f x' → x ≡ x'

-- the term of the variable that has the number v, or another term
abbrev pub at_number : (A : Term) (f : ℕ → ℕ) (v : ℕ) → Subst → Term → Dec (Some (λ x. f x ≡ v) A) → Term
at_number A f v α other (yes s) = α s.0
at_number A f v α other (no n) = other

at_number_of : (A : Term) (f : ℕ → ℕ) (x : ℕ) (α : Subst) (other : Term) (d : Dec (Some (λ z. f z ≡ f x) A)) → OneToOne A f → Occ x A
    → at_number A f (f x) α other d ≡ α x
at_number_of A f x α other (yes s) one-to-one o = ap α (one-to-one s.0 x s.1 o s.2)
at_number_of A f x α other (no n) one-to-one o = absurd (n (x, o, refl))

at_number_else : (A : Term) (f : ℕ → ℕ) (v : ℕ) (α : Subst) (other : Term) (d : Dec (Some (λ z. f z ≡ v) A))
    → (Some (λ z. f z ≡ v) A → ⊥) → at_number A f v α other d ≡ other
at_number_else A f v α other (yes s) none = absurd (none s)
at_number_else A f v α other (no n) none = refl

-- whether a variable of the atom has the number v
has_number : (A : Term) (f : ℕ → ℕ) (v : ℕ) → Dec (Some (λ x. f x ≡ v) A)
has_number A f v = some_decided (λ x. f x ≡ v) (λ x. ℕ_discrete (f x) v) A

-- no variable of A has the number of a variable of B
abbrev pub Disjoint : Term → (ℕ → ℕ) → Term → (ℕ → ℕ) → Type 0
Disjoint A l B r = (x y : ℕ) → Occ x A → Occ y B → l x ≡ r y → ⊥

-- one substitution for the numbers, of a pair of substitutions
paired : (A B : Term) (l r : ℕ → ℕ) → Subst → Subst → Subst
paired A B l r α β v = at_number A l v α (at_number B r v β (var v) (has_number B r v)) (has_number A l v)

module _ (A B : Term) (l r : ℕ → ℕ) (l-one-to-one : OneToOne A l) (r-one-to-one : OneToOne B r) (disjoint : Disjoint A l B r) where
  paired_left : (α β : Subst) (x : ℕ) → Occ x A → paired A B l r α β (l x) ≡ α x
  unfolding paired
  paired_left α β x o = at_number_of A l x α _ (has_number A l (l x)) l-one-to-one o

  paired_right : (α β : Subst) (y : ℕ) → Occ y B → paired A B l r α β (r y) ≡ β y
  unfolding paired
  paired_right α β y o =
      at_number_else A l (r y) α _ (has_number A l (r y)) (λ s. disjoint s.0 y s.1 o s.2)
      ∙ at_number_of B r y β (var (r y)) (has_number B r (r y)) r-one-to-one o

  -- a pair that makes the atoms equal makes the numbered atoms equal
  paired_solves : (α β : Subst) → Unifies A B α β → sub (numbered A l) (paired A B l r α β) ≡ sub (numbered B r) (paired A B l r α β)
  paired_solves α β e =
      sub_comp A (λ v. var (l v)) (paired A B l r α β)
      ∙ sub_agree A (λ v. paired A B l r α β (l v)) α (paired_left α β)
      ∙ e
      ∙ sym (sub_agree B (λ v. paired A B l r α β (r v)) β (paired_right α β))
      ∙ sym (sub_comp B (λ v. var (r v)) (paired A B l r α β))

  -- a strong solution of the numbered atoms is a most general unifier of the two
  pub solution_most_general : (σ : Subst) → Solution (λ τ. sub (numbered A l) τ ≡ sub (numbered B r) τ) σ
      → MostGeneral A B (λ v. σ (l v)) (λ v. σ (r v))
  solution_most_general σ s =
      record {
        unifies = sym (sub_comp A (λ v. var (l v)) σ) ∙ s.solves ∙ sub_comp B (λ v. var (r v)) σ;
        general = λ α β e.
            let same : comp σ (paired A B l r α β) ≡ paired A B l r α β = s.absorbs (paired A B l r α β) (paired_solves α β e) in
            (paired A B l r α β, λ x o. ap (λ τ. τ (l x)) same ∙ paired_left α β x o, λ y o. ap (λ τ. τ (r y)) same ∙ paired_right α β y o);
      }

  -- atoms whose numbered forms have no solution are apart
  pub unsolved_apart : ((τ : Subst) → sub (numbered A l) τ ≡ sub (numbered B r) τ → ⊥) → Apart A B
  unsolved_apart never α β e = never (paired A B l r α β) (paired_solves α β e)

-- A's variables get even numbers, B's odd ones
abbrev pub even : ℕ → ℕ
even v = v + v

abbrev pub odd : ℕ → ℕ
odd v = suc (v + v)

pub even_one_to_one : (A : Term) → OneToOne A even
even_one_to_one A x x' o o' e = omega arith

pub odd_one_to_one : (A : Term) → OneToOne A odd
odd_one_to_one A x x' o o' e = omega arith

pub even_odd_disjoint : (A B : Term) → Disjoint A even B odd
even_odd_disjoint A B x y o o' e = omega arith

-- or A's variables keep their numbers, below n, and B's stand n further
pub itself_one_to_one : (A : Term) → OneToOne A (λ v. v)
itself_one_to_one A x x' o o' e = e

pub shifted_one_to_one : (n : ℕ) (B : Term) → OneToOne B (λ v. n + v)
shifted_one_to_one n B y y' o o' e = omega arith

pub itself_shifted_disjoint : (n : ℕ) (A B : Term) → All (λ v. v < n) A → Disjoint A (λ v. v) B (λ v. n + v)
itself_shifted_disjoint n A B small x y o o' e = let h = all_occ (λ v. v < n) A small x o in omega arith

-- what is said of two atoms
abbrev pub Decided : Term → Term → Type 0
Decided A B = Apart A B ⊎ ((α : Subst) × (β : Subst) × MostGeneral A B α β)

unfoldable pub decided : (A B : Term) → Unified (numbered A even) (numbered B odd) → Decided A B
decided A B (inl s) =
    inr (λ v. s.0 (even v), λ v. s.0 (odd v), solution_most_general A B even odd (even_one_to_one A) (odd_one_to_one B) (even_odd_disjoint A B) s.0 s.1)
decided A B (inr n) = inl (unsolved_apart A B even odd (even_one_to_one A) (odd_one_to_one B) (even_odd_disjoint A B) n)

-- two atoms are apart, or have a most general unifier
unfoldable pub unifier_decided : (A B : Term) → Decided A B
unfolding decided unify
unifier_decided A B = decided A B (unify (numbered A even) (numbered B odd))

-- and never both
pub apart_not_unified : {A B : Term} {α β : Subst} → Apart A B → MostGeneral A B α β → ⊥
apart_not_unified {α = α} {β = β} apart u = apart α β u.unifies
