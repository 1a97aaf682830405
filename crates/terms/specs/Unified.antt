-- What unification leaves: a most general unifier, and for each variable the set of the variables of what it stands for.
use Rattle.std.specs.Prelude.{ℕ, ◌+◌, ◌≤◌, ◌<◌, ◌≡◌, List, Bool, length, get_or}
use Rattle.terms.specs.Term.{Term, Subst, var, Occ}
use Rattle.terms.specs.Cells.{variables, atom_cells, pick, enc, Atom, Run}
use Rattle.terms.specs.Mask.{Marks}
use Rattle.terms.specs.Unifier.{Apart, MostGeneral}
use Rattle.terms.specs.Store.{all_variables, no_place, cells_at, bound, Stands}

-- "What a variable stands for": variable v of the first atom has its set at v, variable v of the second at 16 + v
pub record Sets (α β : Subst) (sets : List ℕ) : Type 0 where
  pub first : (v : ℕ) → v < variables → Marks (λ z. Occ z (α v)) (get_or sets v 0)
  pub second : (v : ℕ) → v < variables → Marks (λ z. Occ z (β v)) (get_or sets (variables + v) 0)

-- the store is a most general unifier: every variable stands in it for what the unifier gives it, and what it is bound to is a whole
-- term of one of the atoms: "the run of cells itself, in the call's atom or in the clause's atom"
pub record Unified (functions a b : List ℕ) (A B : Term) (places sets : List ℕ) : Type 0 where
  pub σ : Subst
  pub stands : (x : ℕ) → Stands (bound functions a b places) (var x) (σ x)
  pub most_general : MostGeneral A B σ (λ v. σ (variables + v))
  pub sets_right : Sets σ (λ v. σ (variables + v)) sets
  pub all_places : length places ≡ all_variables
  pub whole : (x : ℕ) → get_or places x no_place < no_place → Run functions (cells_at a b (get_or places x no_place)) 1

-- the bindings are those of a most general unifier of the two atoms
abbrev pub Bindings : List ℕ → List ℕ → List ℕ → Term → Term → List ℕ → Type 0
Bindings functions a b A B places = (sets : List ℕ) × Unified functions a b A B places sets

-- the store that unification left of two atoms of at most 32 cells
pub record StoreOf (functions a b places : List ℕ) : Type 0 where
  pub A : Term
  pub B : Term
  pub bindings : Bindings functions a b A B places
  pub first_short : length a ≤ atom_cells
  pub second_short : length b ≤ atom_cells

-- the answer on two runs of cells that are atoms: apart, or unified
abbrev pub Unification : List ℕ → List ℕ → List ℕ → List ℕ → Bool → List ℕ → List ℕ → Type 0
Unification predicates functions a b r places sets =
    (A B : Term) → a ≡ enc A → b ≡ enc B → Atom predicates functions A → Atom predicates functions B
    → pick r (Unified functions a b A B places sets) (Apart A B)

-- both runs of cells are atoms
pub record BothAtoms (predicates functions a b : List ℕ) : Type 0 where
  pub first : Term
  pub first_run : a ≡ enc first
  pub first_atom : Atom predicates functions first
  pub second : Term
  pub second_run : b ≡ enc second
  pub second_atom_law : Atom predicates functions second
