-- Cont rows joined with answers, row by row: what rule 2 makes at one place, as the code goes over it.
use Rattle.std.specs.Prelude.{ℕ, suc, ◌*◌, ◌≤◌, ◌<◌, ◌≡◌, ◌⊎◌, ◌↔◌, length, take}
use mathlib.Core.List.{List, Memᴰ}
use Rattle.terms.specs.Term.{Term}
use Rattle.terms.specs.Mask.{Has}
use Rattle.marks.specs.Modes.{modes, Together, KeptTo}
use Rattle.program.specs.Program.{Program}
use Rattle.program.specs.Limits.{row_size}
use Rattle.rows.specs.Rows.{slot_at, mask_at, before_at, keys_of}
use Rattle.rows.specs.Chains.{Latest}
use Rattle.rows.specs.MaskSet.{InSet}
use Rattle.table.specs.Rules.{Reached}
use Rattle.table.specs.NewRows.{NewReached}
use Rattle.table.specs.RoundKeys.{Keyed}
use Rattle.steps.specs.Steps.{RowsIn, Emitted}
use Rattle.steps.specs.Situation.{Place, BodyOf}
use Rattle.joining.specs.Answers.{Answer}
use Rattle.joining.specs.Standings.{SituationOf}
use Rattle.joining.specs.declared.standing.Standing.{Standing}

-- "the cont row's marks together with those that the solution passes": marks M with one of the answers
abbrev pub JoinedWith : ℕ → List ℕ → ℕ → Type 0
JoinedWith M answers N = (q : ℕ) × Memᴰ q answers × Together M q N

-- a row with marks M joins the fresh answers, and where it is new all of them
abbrev pub Due : ℕ → List ℕ → List ℕ → ℕ → ℕ → ℕ → Type 0
Due M fresh all since r N = JoinedWith M fresh N ⊎ ((since ≤ r) × JoinedWith M all N)

-- the answers that row r joins: all where it is new, and otherwise the fresh ones
abbrev pub Turn : List ℕ → List ℕ → ℕ → ℕ → List ℕ → Type 0
Turn fresh all since r due = ((since ≤ r) × (due ≡ all)) ⊎ ((r < since) × (due ≡ fresh))

-- the marks that the rows of a slot, from row `from` on, make with the answers
abbrev pub ContMarks : List ℕ → List ℕ → List ℕ → ℕ → ℕ → ℕ → ℕ → ℕ → Type 0
ContMarks table fresh all slot rows since from N =
    (r : ℕ) × (from ≤ r) × (r < rows) × (slot_at table r ≡ slot) × Due (mask_at table r) fresh all since r N

-- the keys of the rows that such marks give before body atom i of clause k
abbrev pub RowsOf : Program → ℕ → ℕ → (ℕ → Type 0) → ℕ → Type 0
RowsOf p k i Such key = (N : ℕ) × Such N × Keyed p (Emitted p k i N) key

-- such marks, kept to the variables `there`
abbrev pub KeptOf : ℕ → (ℕ → Type 0) → ℕ → Type 0
KeptOf there Such q = (N : ℕ) × Such N × KeptTo (Has there) N q

-- the first `rows` rows of a slot are in a chain from `newest` on
pub record SlotChain (table : List ℕ) (slot rows newest : ℕ) : Type 0 where
  pub head : Latest (slot_at table) slot rows newest
  pub links : (r : ℕ) → r < rows → Latest (slot_at table) (slot_at table r) r (before_at table r)
  pub fits : row_size * rows ≤ length table

-- the marks come before body atom j by the rules, from the first `rows` rows
pub record Reaching (dir order table : List ℕ) (count rows j : ℕ) (Such : ℕ → Type 0) : Type 0 where
  pub place : Place dir order count j
  pub reached : (N : ℕ) → Such N → Reached modes place.p (RowsIn place.p (keys_of table rows)) place.k place.i N

-- marks that the set has, or M with one of the answers
abbrev pub Had : List ℕ → ℕ → List ℕ → ℕ → Type 0
Had seen M answers N = InSet seen N ⊎ JoinedWith M answers N

-- what is asked before marks M with the answers give rows for body atom j: the rows of the marks in the set are among the first n
pub record JoinAsked (dir order table answers seen : List ℕ) (count rows j M n : ℕ) : Type 0 where
  pub reaching : Reaching dir order table count rows j (JoinedWith M answers)
  pub seen_there : (key : ℕ) → RowsOf reaching.place.p reaching.place.k reaching.place.i (InSet seen) key → Memᴰ key (keys_of table n)

-- the fresh answers are among all
abbrev pub Among : List ℕ → List ℕ → Type 0
Among fresh all = (q : ℕ) → Memᴰ q fresh → Memᴰ q all

-- so many answers stand in the list: the fresh ones first
pub record AnswersThere (answers : List ℕ) (fresh all : ℕ) : Type 0 where
  pub few : fresh ≤ all
  pub most : all ≤ length answers

-- what is asked before the cont rows of a place give rows for body atom j
pub record ContsAsked (dir order table fresh all : List ℕ) (count rows newest since j : ℕ) : Type 0 where
  pub slot : ℕ
  pub chain : SlotChain table slot rows newest
  pub among : Among fresh all
  pub reaching : Reaching dir order table count rows j (ContMarks table fresh all slot rows since 0)

-- what is asked before the cont rows of a last place mark the head
pub record ContsThere (table fresh all : List ℕ) (newest : ℕ) : Type 0 where
  pub slot : ℕ
  pub rows : ℕ
  pub chain : SlotChain table slot rows newest
  pub among : Among fresh all

-- the answers of the rows from row `from` on are listed, the fresh ones first: those of the rows from `since` on
pub record ListedFrom (p : Program) (table : List ℕ) (A : Term) (from since rows : ℕ) (fresh all : List ℕ) : Type 0 where
  pub fresh_are : (q : ℕ) → Memᴰ q fresh ↔ Answer p table A since rows q
  pub are : (q : ℕ) → Memᴰ q all ↔ Answer p table A from rows q

-- the answers listed to atom A: the fresh ones are those of the rows from `since` on; where a cont row is new, all are listed
pub record Answered (p : Program) (table : List ℕ) (A : Term) (since rows newest : ℕ) (fresh all : List ℕ) : Type 0 where
  pub fresh_are : (q : ℕ) → Memᴰ q fresh ↔ Answer p table A since rows q
  pub all_are : (q : ℕ) → Memᴰ q all → Answer p table A 0 rows q
  pub all_new : since < newest → (q : ℕ) → Answer p table A 0 rows q → Memᴰ q all

-- the analysis stands at body atom j
pub record BodyAsked (standing : Standing) (j : ℕ) : Type 0 where
  pub situation : SituationOf standing
  pub body : BodyOf situation.p j

-- past body atom j no marks come with a new row
abbrev pub NothingNew : Standing → ℕ → Type 0
NothingNew s j = (w : SituationOf s) (b : BodyOf w.p j) (N : ℕ)
    → NewReached modes w.p (RowsIn w.p (keys_of s.table.now s.since)) (RowsIn w.p (keys_of s.table.now s.before)) b.k (suc b.i) N → ⊥

-- so many answers to body atom j are listed, the fresh ones first
pub record Lists (standing : Standing) (j newest : ℕ) (answers : List ℕ) (fresh all : ℕ) : Type 0 where
  pub there : AnswersThere answers fresh all
  pub answered : (w : SituationOf standing) (b : BodyOf w.p j) → Answered w.p standing.table.now b.A standing.since standing.before newest (take fresh answers) (take all answers)
