-- The answers to body atoms that are kept between rounds, in lent words: a set of masks for each atom, in the atom's own numbering.
use Rattle.std.specs.Prelude.{ℕ, ◌*◌, ◌≤◌, ◌<◌, ◌≡◌, length, take}
use mathlib.Core.List.{List, Memᴰ}
use Rattle.terms.specs.Term.{Term, Occ}
use Rattle.terms.specs.Mask.{Has}
use Rattle.marks.specs.Modes.{Renumbered, Reordered, Restored, InOrder}
use Rattle.program.specs.Program.{Program}
use Rattle.program.specs.Shapes.{number}
use Rattle.rows.specs.KeptSets.{masks_in, KeptAt, things, known_of, kept_words, Keeping}
use Rattle.steps.specs.Situation.{Setting, BodyOf}
use Rattle.joining.specs.Standings.{SituationOf}
use Rattle.joining.specs.declared.standing.Standing.{Standing}
use Rattle.joining.specs.Answers.{Listing, Answer}

-- answers to an atom of at most so many variables are kept: so many words have a bit for each of its masks
abbrev pub answer_vars : ℕ
answer_vars = 8

abbrev pub answer_set : ℕ
answer_set = 16

abbrev pub answer_masks : ℕ
answer_masks = masks_in answer_set

-- mask q is in the set of body atom j
abbrev pub AnsweredIn : List ℕ → ℕ → ℕ → Type 0
AnsweredIn answered j q = KeptAt answered (answer_set * j) q

-- the set has the answers of the first so many rows
abbrev pub answered_of : List ℕ → ℕ → ℕ
answered_of answered j = known_of answer_set answered j

-- an answer of the first so many rows, in the atom's own numbering
abbrev pub OwnAnswer : Program → List ℕ → Term → ℕ → ℕ → Type 0
OwnAnswer p table A rows q = (N : ℕ) × Answer p table A 0 rows N × Renumbered A (number A) N q

-- the first body atoms have a set each
abbrev pub KeptAtom : Program → ℕ → Type 0
KeptAtom p j = (j < things) × BodyOf p j

abbrev pub AnswersTo : (p : Program) → List ℕ → (j : ℕ) → KeptAtom p j → ℕ → ℕ → Type 0
AnswersTo p table j atom rows q = OwnAnswer p table atom.1.A rows q

-- for each of them exactly the answers of the rows that are known, which are some of the first n
pub record KeepingAnswers (p : Program) (table answered : List ℕ) (n : ℕ) : Type 0 where
  pub sets : Keeping answer_set (KeptAtom p) (AnswersTo p table) answered n

abbrev pub KeepsAnswers : List ℕ → List ℕ → List ℕ → List ℕ → ℕ → Type 0
KeepsAnswers words dir table answered n = (p : Program) → Setting words dir p → KeepingAnswers p table answered n

-- one of the answers, in the list's order
abbrev pub Ordered : List ℕ → ℕ → List ℕ → ℕ → Type 0
Ordered order count answers q = (N : ℕ) × Memᴰ N answers × Reordered order count N q

-- what is in the set of body atom j, of the masks below so many, back in the clause's numbering
abbrev pub Recalled : List ℕ → ℕ → List ℕ → ℕ → ℕ → ℕ → Type 0
Recalled order count answered j upto N = (q : ℕ) × (q < upto) × AnsweredIn answered j q × Restored order count q N

-- marks of the atom's own variables
abbrev pub Own : Term → ℕ → Type 0
Own A N = (v : ℕ) → Has N v → Occ v A

-- an atom whose answers are kept
pub record FewVars (A : Term) (order : List ℕ) (count j : ℕ) : Type 0 where
  pub in_order : InOrder A (number A) order count
  pub variables_few : (v : ℕ) → Occ v A → v < 16
  pub few : count ≤ answer_vars
  pub near : j < things

-- what is asked before answers are put into the set of body atom j
pub record KeepAsked (order answered : List ℕ) (count j : ℕ) : Type 0 where
  pub A : Term
  pub kept : FewVars A order count j
  pub size : length answered ≡ kept_words answer_set

-- what is asked before the set of body atom j is listed behind the first `upto` answers
pub record RecallAsked (order seen answers answered : List ℕ) (count upto j : ℕ) : Type 0 where
  pub A : Term
  pub kept : FewVars A order count j
  pub listing : Listing seen answers upto
  pub own : (N : ℕ) → Memᴰ N (take upto answers) → Own A N
  pub size : length answered ≡ kept_words answer_set

-- the analysis stands at body atom j, whose answers are kept
pub record KeptAsked (standing : Standing) (order : List ℕ) (count j : ℕ) : Type 0 where
  pub situation : SituationOf standing
  pub body : BodyOf situation.p j
  pub near : j < things
  pub kept : (w : SituationOf standing) (b : BodyOf w.p j) → FewVars b.A order count j

-- the answers that are kept are those of the rows so far
abbrev pub KeepsFor : Standing → List ℕ → Type 0
KeepsFor s answered = KeepsAnswers s.program.words.now s.program.dir.now s.table.now answered s.before
