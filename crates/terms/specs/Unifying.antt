-- What unification keeps from step to step, and what a step finds. Not for readers of unifiers: those go by `Unified`.
use Rattle.std.specs.Prelude.{ℕ, zero, suc, ◌+◌, ◌-◌, ◌*◌, ◌≤◌, ◌<◌, ◌≡◌, ◌⊎◌, ◌↔◌, Bool, List, [], ◌∷◌, length, get_or, ltb}
use Rattle.std.proofs.Math.Option.{Option, none}
use Rattle.terms.specs.Term.{Term, Terms, var, app, Subst, sub, subs, Occ}
use Rattle.terms.specs.Cells.{first_variable, variables, atom_cells, pick, take_terms, Run}
use Rattle.terms.specs.Mask.{Has}
use Rattle.terms.specs.Store.{second_atom, no_place, cells_at, terms_at, variable_at, first_term, bound, Stands, StandAll, unbound, followed, node, done, more}
use Rattle.terms.specs.declared.unifier.Look.{Look}
use Rattle.terms.specs.declared.unifier.Look.TheVariants.{Unbound, Bound, Function}

-- what is found at a place: a function's number, or a variable, unbound or with the place that it is bound to
abbrev pub look_at : List ℕ → List ℕ → List ℕ → ℕ → Look
look_at a b places p =
    pick (ltb (get_or (cells_at a b p) 0 0) first_variable)
    (Function (get_or (cells_at a b p) 0 0))
    (pick (ltb (get_or places (variable_at p (get_or (cells_at a b p) 0 0)) 0) no_place)
    (Bound (get_or places (variable_at p (get_or (cells_at a b p) 0 0)) 0))
    (Unbound (variable_at p (get_or (cells_at a b p) 0 0))))

-- a cell stands at the place
pub record CellAt (a b : List ℕ) (p : ℕ) : Type 0 where
  pub some : 0 < length (cells_at a b p)
  pub small : get_or (cells_at a b p) 0 0 < 32784

-- how many steps it takes to find what a term stands for
abbrev mutual
  pub steps : {b : ℕ → Option Term} {t u : Term} → Stands b t u → ℕ
  steps (unbound e) = 1
  steps (followed e d) = suc (steps d)
  steps (node ds) = suc (steps_all ds)

  pub steps_all : {b : ℕ → Option Term} {ts us : Terms} → StandAll b ts us → ℕ
  steps_all done = 1
  steps_all (more d ds) = steps d + steps_all ds

-- every variable stands for what σ gives it, in at most c steps
pub record Full (b : ℕ → Option Term) (σ : Subst) (c : ℕ) : Type 0 where
  pub stands : (x : ℕ) → Stands b (var x) (σ x)
  pub few : (x : ℕ) → steps (stands x) ≤ c

-- how many variables are unbound
abbrev pub free : List ℕ → ℕ
free [] = zero
free (p ∷ ps) = pick (ltb p no_place) (free ps) (suc (free ps))

-- how many steps a variable takes at most when k are bound
unfoldable pub most : ℕ → ℕ
most zero = 1
most (suc k) = most k * suc (atom_cells * suc (suc (most k)))

-- the two atoms and the store: every binding is a whole term of one of the atoms, every variable stands for what σ gives it, and
-- each set has the variables of what its variable stands for
pub record RightStore (arities a b places sets : List ℕ) (σ : Subst) : Type 0 where
  pub first_short : length a ≤ atom_cells
  pub second_short : length b ≤ atom_cells
  pub all_places : length places ≡ 32
  pub all_sets : length sets ≡ 32
  pub whole : (x : ℕ) → get_or places x no_place < no_place → Run arities (cells_at a b (get_or places x no_place)) 1
  pub full : Full (bound arities a b places) σ (most (32 - free places))
  pub sets_right : (x z : ℕ) → x < 32 → Has (get_or sets x 0) z ↔ Occ z (σ x)

-- τ is a solution of σ: it is σ followed by τ
abbrev pub Solves : Subst → Subst → Type 0
Solves σ τ = (x : ℕ) → sub (σ x) τ ≡ τ x

-- the terms were made equal: the store's solutions are those from before that make them equal
pub record Joined (arities a b places sets : List ℕ) (σ : Subst) (ss ts : Terms) (places' sets' : List ℕ) : Type 0 where
  pub after : Subst
  pub store : RightStore arities a b places' sets' after
  pub solves : (τ : Subst) → Solves after τ ↔ (Solves σ τ × (subs ss τ ≡ subs ts τ))
  pub fewer : (free places' < free places) ⊎ ((places' ≡ places) × (sets' ≡ sets))

-- no solution of the store makes the terms equal
abbrev pub Parted : Subst → Terms → Terms → Type 0
Parted σ ss ts = (τ : Subst) → Solves σ τ → subs ss τ ≡ subs ts τ → ⊥

-- what a step answers
abbrev pub Outcome : List ℕ → List ℕ → List ℕ → List ℕ → List ℕ → Terms → Terms → Bool → List ℕ → List ℕ → Type 0
Outcome arities a b places sets ss ts r places' sets' =
    (σ : Subst) → RightStore arities a b places sets σ → pick r (Joined arities a b places sets σ ss ts places' sets') (Parted σ ss ts)

-- what stands at a place is followed as far as it goes: a function's term, or an unbound variable other than x
abbrev pub Followed : (ℕ → Option Term) → ℕ → Term → Type 0
Followed bindings x t = ((f : ℕ) × (us : Terms) × (t ≡ app f us)) ⊎ ((y : ℕ) × (t ≡ var y) × (bindings y ≡ none) × (y ≡ x → ⊥))

-- every set that has x loses it and gains the other set
abbrev pub Replaced : ℕ → ℕ → ℕ → ℕ → Type 0
Replaced x gained s s' = (z : ℕ) → Has s' z ↔ ((Has s z × (z ≡ x → ⊥)) ⊎ (Has s x × Has gained z))

pub record AllReplaced (x gained : ℕ) (sets sets' : List ℕ) : Type 0 where
  pub as_many : length sets' ≡ 32
  pub each : (y : ℕ) → y < 32 → Replaced x gained (get_or sets y 0) (get_or sets' y 0)

-- where the variables of the atom at a place begin in the store
abbrev pub base_of : ℕ → ℕ
base_of p = pick (ltb p second_atom) 0 variables

-- x can be bound to the term at a place
pub record Bindable (arities a b places sets : List ℕ) (x p : ℕ) : Type 0 where
  pub σ : Subst
  pub store : RightStore arities a b places sets σ
  pub small : x < 32
  pub unbound_yet : bound arities a b places x ≡ none
  pub run : Run arities (cells_at a b p) 1
  pub is_place : p < no_place
  pub way : Followed (bound arities a b places) x (first_term (terms_at arities a b p))

-- n terms at each of two places can be compared
pub record Comparable (arities a b places sets : List ℕ) (s t n : ℕ) : Type 0 where
  pub σ : Subst
  pub store : RightStore arities a b places sets σ
  pub first_run : Run arities (cells_at a b s) n
  pub second_run : Run arities (cells_at a b t) n
  pub first_place : s < no_place
  pub second_place : t < no_place

-- the first n terms at two places were compared
abbrev pub Compared : List ℕ → List ℕ → List ℕ → List ℕ → List ℕ → ℕ → ℕ → ℕ → Bool → List ℕ → List ℕ → Type 0
Compared arities a b places sets s t n =
    Outcome arities a b places sets (take_terms n (terms_at arities a b s)) (take_terms n (terms_at arities a b t))
