-- What the walks over a run of cells find: where its terms end, which variables are present, whether all are in a set.
use Rattle.std.specs.Prelude.{ℕ, ◌+◌, ◌<◌, ◌≡◌, List, [], ◌∷◌, ◌⊎◌, length, get_or}
use Rattle.terms.specs.Cells.{first_variable, variables, encs, terms_of, take_terms}
use Rattle.terms.specs.Mask.{Has, Marks}

-- how many cells the first n terms of a run have
abbrev pub cells_of : List ℕ → List ℕ → ℕ → ℕ
cells_of arities cells n = length (encs (take_terms n (terms_of arities cells)))

-- the variable v is in the run: its cell is there
abbrev pub InRun : ℕ → List ℕ → Type 0
InRun v [] = ⊥
InRun v (c ∷ cs) = (c ≡ first_variable + v) ⊎ InRun v cs

-- each cell is a function's or a variable's, and "v is at most 15"
abbrev pub Cells : List ℕ → Type 0
Cells cells = (i : ℕ) → i < length cells → get_or cells i 0 < first_variable + variables

-- which variables are present
abbrev pub Present : List ℕ → ℕ → Type 0
Present cells set = Marks (λ v. InRun v cells) set

-- z is in the set of one of the run's variables; their sets begin at `base`
abbrev pub InSets : List ℕ → ℕ → List ℕ → ℕ → Type 0
InSets cells base sets z = (v : ℕ) × InRun v cells × Has (get_or sets (base + v) 0) z
