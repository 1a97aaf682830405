-- Answers: the marks that solution rows pass to a body atom, each once in a list, and the set of those listed.
use Rattle.std.specs.Prelude.{ℕ, ◌+◌, ◌≤◌, ◌<◌, ◌≡◌, ◌⊎◌, ◌↔◌, length, take, get_or}
use mathlib.Core.List.{List, [], Memᴰ}
use Rattle.terms.specs.Term.{Term}
use Rattle.marks.specs.Pass.{Pass}
use Rattle.marks.specs.Passing.{MarkedIn}
use Rattle.terms.specs.Mask.{Marks}
use Rattle.program.specs.Program.{Nth, Program}
use Rattle.program.specs.Shapes.{shapes}
use Rattle.program.specs.Limits.{masks, max_rows}
use Rattle.program.specs.Lists.{Distinct}
use Rattle.rows.specs.Rows.{slot_at, mask_at}
use Rattle.rows.specs.MaskSet.{set_words, InSet}
use Rattle.table.specs.Keys.{first_solution}
use Rattle.steps.specs.Situation.{BodyOf}
use Rattle.joining.specs.Standings.{SituationOf}
use Rattle.joining.specs.declared.standing.Standing.{Standing}

-- the first `count` answers are those seen
pub record Listing (seen answers : List ℕ) (count : ℕ) : Type 0 where
  pub set_size : length seen ≡ set_words
  pub list_size : length answers ≡ max_rows
  pub within : count ≤ max_rows
  pub small : (q : ℕ) → Memᴰ q (take count answers) → q < masks
  pub same : (q : ℕ) → q < masks → InSet seen q ↔ Memᴰ q (take count answers)
  pub distinct : Distinct (take count answers)

-- the set has these answers and no others
pub record SetOf (seen answers : List ℕ) : Type 0 where
  pub set_size : length seen ≡ set_words
  pub small : (q : ℕ) → Memᴰ q answers → q < masks
  pub same : (q : ℕ) → q < masks → InSet seen q ↔ Memᴰ q answers

-- the rows that gave the answers, each one answer at most: so there are no more answers than rows
pub record Sources (From : ℕ → Type 0) (rows count : ℕ) : Type 0 where
  pub sources : List ℕ
  pub distinct : Distinct sources
  pub as_many : length sources ≡ count
  pub below : (r : ℕ) → Memᴰ r sources → (r < rows) × From r

-- the mask that row r passes on the sets: from an atom with the variables `here` to one with the variables `there`
abbrev pub Passes : List ℕ → List ℕ → ℕ → ℕ → ℕ → ℕ → Type 0
Passes table sets here there r q = Marks (MarkedIn sets 0 (mask_at table r) here 16 0 there) q

-- the answers to atom A of the solution rows from row `from` on and below row `to`
abbrev pub Answer : Program → List ℕ → Term → ℕ → ℕ → ℕ → Type 0
Answer p table A from to q =
    (r : ℕ) × (from ≤ r) × (r < to) × (s : ℕ) × (S : Term) × Nth (shapes p) s S × (slot_at table r ≡ first_solution + s) × Pass S (mask_at table r) A 0 q

-- the answers of some rows were put behind the first `count`
pub record Found (P : ℕ → Type 0) (seen answers : List ℕ) (count r : ℕ) (answers₀ : List ℕ) : Type 0 where
  pub listing : Listing seen answers r
  pub more : count ≤ r
  pub keeps : take count answers ≡ take count answers₀
  pub members : (q : ℕ) → Memᴰ q (take r answers) ↔ (Memᴰ q (take count answers₀) ⊎ P q)

-- q stands in the list at a place from `from` on and before `to`
abbrev pub Stands : List ℕ → ℕ → ℕ → ℕ → Type 0
Stands answers from to q = (i : ℕ) × (from ≤ i) × (i < to) × (get_or answers i 0 ≡ q)

-- the answers of the rows from `since` on are listed at the front; those of the older rows from row `from` on stand at the back, from place `older` on
pub record Parted (p : Program) (table : List ℕ) (A : Term) (from since rows : ℕ) (seen answers : List ℕ) (fresh older : ℕ) : Type 0 where
  pub front : Found (Answer p table A since rows) seen answers 0 fresh []
  pub back : (q : ℕ) → Stands answers older max_rows q ↔ Answer p table A from since q
  pub room : fresh ≤ older
  pub most : older ≤ max_rows

-- what is asked before answers are listed
pub record AnswersAsked (standing : Standing) (seen answers : List ℕ) (j from : ℕ) : Type 0 where
  pub situation : SituationOf standing
  pub body : BodyOf situation.p j
  pub ordered : from ≤ standing.since
  pub listing : Listing seen answers 0

-- what is asked before the answers at the back are listed behind the fresh ones
pub record SettleAsked (seen answers : List ℕ) (fresh older : ℕ) : Type 0 where
  pub listing : Listing seen answers fresh
  pub room : fresh ≤ older
  pub most : older ≤ max_rows
