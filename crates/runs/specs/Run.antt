-- Runs of a program, as a reader who knows Prolog expects them: the goal in progress, a step, a run.
use Rattle.std.specs.Prelude.{ℕ, zero, suc, ◌≤◌, ◌≡◌, ◌⊎◌, List, [], ◌∷◌, ◌++◌}
use Rattle.terms.specs.Term.{Term, var, Subst, sub, Occ}
use Rattle.marks.specs.Domain.{Domain}
use Rattle.program.specs.Program.{Nth, Clause, Program}
use Rattle.program.specs.Shapes.{shape_number, In}

-- What a goal in progress is a list of. The terms are any finite terms: any variables, any function symbols, not only the program's.
pub data Item : Type 0 where
  -- an atom still to be called, with the number of the shape that it was written in
  atom : ℕ → Term → Item
  -- the end mark of an atom that was called, with that atom as it now reads: it stands behind all that was put for the atom
  end : ℕ → Term → Item

-- "applies a substitution": to the atoms still to be called and to the end marks
abbrev pub apply : List Item → Subst → List Item
apply [] θ = []
apply (atom s A ∷ items) θ = atom s (sub A θ) ∷ apply items θ
apply (end s A ∷ items) θ = end s (sub A θ) ∷ apply items θ

-- body atoms under a substitution, to be called, each with the number of the shape that the program wrote it in
abbrev pub written : Program → List Term → Subst → List Item
written p [] σ = []
written p (A ∷ As) σ = atom (shape_number p A) (sub A σ) ∷ written p As σ

-- the variable v is in sight: it occurs in an atom still to be called or in an end mark
abbrev pub InSight : ℕ → List Item → Type 0
InSight v [] = ⊥
InSight v (atom s A ∷ items) = Occ v A ⊎ InSight v items
InSight v (end s A ∷ items) = Occ v A ⊎ InSight v items

-- "freshly renamed": ρ keeps the clause's variables apart and takes none of them to a variable in sight
pub record Fresh (c : Clause) (ρ : ℕ → ℕ) (items : List Item) : Type 0 where
  pub apart : (v w : ℕ) → In v (c.head ∷ c.body) → In w (c.head ∷ c.body) → ρ v ≡ ρ w → v ≡ w
  pub unseen : (v : ℕ) → In v (c.head ∷ c.body) → InSight (ρ v) items → ⊥

-- the renaming, as a substitution
abbrev pub renamed : (ℕ → ℕ) → Subst
renamed ρ v = var (ρ v)

-- a substitution as a run makes it: only finitely many variables change, none from some number on
abbrev pub Finite : Subst → Type 0
Finite θ = (n : ℕ) × ((v : ℕ) → n ≤ v → θ v ≡ var v)

pub data Step (p : Program) : List Item → List Item → Type 0 where
  -- "A step of a run puts a clause's body, freshly renamed, for the leftmost atom and applies a substitution that makes head and atom equal."
  -- Most general or not. The end mark goes behind the body.
  put : {k s : ℕ} {c : Clause} {A : Term} {rest : List Item} (ρ : ℕ → ℕ) (θ : Subst)
      → Nth p.clauses k c → Fresh c ρ (atom s A ∷ rest) → Finite θ
      → sub (sub c.head (renamed ρ)) θ ≡ sub A θ
      → Step p (atom s A ∷ rest) (apply (written p c.body (renamed ρ) ++ (end s A ∷ rest)) θ)
  -- "an atom is solved, as it then reads, when nothing put for it is left": its end mark stands leftmost, and is taken away
  leave : {s : ℕ} {A : Term} {rest : List Item} → Step p (end s A ∷ rest) rest

module _ (D : Domain) (p : Program) (goal : D.Mark) where
  -- the goals in progress that n steps lead to, from any instance of the top goal of which its marks hold: ground terms for its ground variables
  pub data Run : ℕ → List Item → Type 0 where
    start : (σ : Subst) → D.Holds goal σ → Run zero (atom 0 (sub p.goal σ) ∷ [])
    step : {n : ℕ} {items items' : List Item} → Run n items → Step p items items' → Run (suc n) items'

  -- after n steps the atom A, written in shape s, is called: it stands leftmost
  abbrev pub Called : ℕ → ℕ → Term → Type 0
  Called n s A = (rest : List Item) × Run n (atom s A ∷ rest)

  -- after n steps the atom that was called in shape s is solved, and reads A: its end mark stands leftmost
  abbrev pub Solved : ℕ → ℕ → Term → Type 0
  Solved n s A = (rest : List Item) × Run n (end s A ∷ rest)
