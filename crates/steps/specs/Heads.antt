-- Marks on a clause's head: those that result, as a set of masks of the head's variables, and the solution rows that they give.
use Rattle.std.specs.Prelude.{ℕ, ◌*◌, ◌≤◌, ◌<◌, ◌≡◌, Bool, ◌⊎◌, ◌↔◌, List, T, length}
use Rattle.terms.specs.Term.{Term, Occ}
use Rattle.marks.specs.Modes.{modes, KeptTo}
use Rattle.marks.specs.Pass.{Pass}
use Rattle.program.specs.Program.{Nth, Program, Clause}
use Rattle.program.specs.Shapes.{shapes}
use Rattle.program.specs.Limits.{masks}
use Rattle.rows.specs.Rows.{keys_of}
use Rattle.rows.specs.MaskSet.{set_words, InSet}
use Rattle.table.specs.Rules.{Row, call, solution}
use Rattle.table.specs.NewRows.{New, NewReached}
use Rattle.steps.specs.Steps.{RowsIn}

-- marks with which the rules come past the first i body atoms of clause k, by combinations with a row from `since` on
abbrev pub ReachedSince : Program → List ℕ → ℕ → ℕ → ℕ → ℕ → ℕ → Type 0
ReachedSince p table since rows k i N =
    NewReached modes p (RowsIn p (keys_of table since)) (RowsIn p (keys_of table rows)) k i N

-- q is such marks, kept to the head's variables
pub record HeadMark (p : Program) (table : List ℕ) (since rows k i q : ℕ) : Type 0 where
  pub c : Clause
  pub nth_clause : Nth p.clauses k c
  pub N : ℕ
  pub reached : ReachedSince p table since rows k i N
  pub kept : KeptTo (λ v. Occ v c.head) N q

-- the set has gained exactly these marks
pub record Collected (P : ℕ → Type 0) (found found' : List ℕ) : Type 0 where
  pub size : length found' ≡ set_words
  pub members : (q : ℕ) → q < masks → InSet found' q ↔ (InSet found q ⊎ P q)

-- the answer is true where there are such marks
abbrev pub Told : (ℕ → Type 0) → Bool → Type 0
Told P r = (q : ℕ) → P q → T r

-- the solution rows of shape s that the marks in the set give with its call rows: ks are the keys of the rows so far, and those in ks₀ are left out
pub data SolvedOf (p : Program) (ks₀ ks : List ℕ) (k : ℕ) (found : List ℕ) (s : ℕ) : Row ℕ → Type 0 where
  solved : {c : Clause} {q C R : ℕ} {S : Term} → Nth p.clauses k c → InSet found q → Nth (shapes p) s S
      → New modes p (RowsIn p ks₀) (RowsIn p ks) (call s C) → Pass c.head q S C R → SolvedOf p ks₀ ks k found s (solution s R)

-- "for *every* call row whose shape unifies with H"
abbrev pub Solved : Program → List ℕ → List ℕ → ℕ → List ℕ → Row ℕ → Type 0
Solved p ks₀ ks k found row = (s : ℕ) × SolvedOf p ks₀ ks k found s row

-- the set has marks that result on the head of clause k, past its i body atoms; all are below `marks`, and the set has words for these
pub record FoundOn (p : Program) (table : List ℕ) (rows k i : ℕ) (found : List ℕ) (marks : ℕ) : Type 0 where
  pub few : marks ≤ masks
  pub within : marks ≤ 16 * length found
  pub below : (q : ℕ) → InSet found q → q < marks
  pub result : (q : ℕ) → InSet found q → HeadMark p table 0 rows k i q
