-- What the rules give by combinations with a new row: what a round looks at, clause by clause and place by place.
use Rattle.std.specs.Prelude.{ℕ, zero, suc, ◌⊎◌, length}
use Rattle.marks.specs.Domain.{Domain}
use Rattle.program.specs.Program.{Nth, Clause, Program}
use Rattle.table.specs.Rules.{Row, call, cont, solution}
use Rattle.table.specs.Rounds.{At}
use Rattle.table.specs.Steps.{Opens, Makes, GoesOn, EndsIn, OnHead}

module _ (D : Domain) (p : Program) (goal : D.Mark) where
  -- the rows of the round before
  abbrev pub Earlier : ℕ → Row D.Mark → Type 0
  Earlier zero row = ⊥
  Earlier (suc k) row = At D p goal k row

-- T₀ are the rows of the round before, T the rows so far
module _ (D : Domain) (p : Program) (T₀ T : Row D.Mark → Type 0) where
  -- a row that is new since the last round
  abbrev pub New : Row D.Mark → Type 0
  New row = T row × (T₀ row → ⊥)

  -- rules 1 and 2, with a new row: marks with which the rules come past the first i body atoms of clause k
  abbrev pub NewReached : ℕ → ℕ → D.Mark → Type 0
  NewReached k zero N = (s : ℕ) × (M : D.Mark) × New (call s M) × Opens D p k s M N
  NewReached k (suc i) N =
      (M : D.Mark) × (s : ℕ) × (L : D.Mark) × T (cont (suc k) (suc i) M) × T (solution s L)
      × ((T₀ (cont (suc k) (suc i) M) → ⊥) ⊎ (T₀ (solution s L) → ⊥)) × Makes D p k i M s L N

  -- marks on the head of clause k that result with a new row
  pub data NewOnHead (k : ℕ) (N : D.Mark) : Type 0 where
    new_on_head : {c : Clause} → Nth p.clauses k c → NewReached k (length c.body) N → NewOnHead k N

  -- call and cont rows of such marks, before body atom i of clause k
  abbrev pub NewGoesOn : ℕ → ℕ → Row D.Mark → Type 0
  NewGoesOn k i row = (N : D.Mark) × NewReached k i N × GoesOn D p k i N row

  -- rule 3 with marks on the head that result with a new row, "for *every* call row"
  abbrev pub NewEnds : ℕ → Row D.Mark → Type 0
  NewEnds k row = (N : D.Mark) × NewOnHead k N × (s : ℕ) × (C : D.Mark) × T (call s C) × EndsIn D p k N s C row

  -- rule 3 with a new call row, and all marks on the head, of new rows and of old
  abbrev pub LateCalls : ℕ → Row D.Mark → Type 0
  LateCalls k row = (N : D.Mark) × OnHead D p T k N × (s : ℕ) × (C : D.Mark) × New (call s C) × EndsIn D p k N s C row

  -- what a round looks at in clause k, and in all
  abbrev pub NewIn : ℕ → Row D.Mark → Type 0
  NewIn k row = ((i : ℕ) × NewGoesOn k i row) ⊎ (NewEnds k row ⊎ LateCalls k row)

  abbrev pub NewGives : Row D.Mark → Type 0
  NewGives row = (k : ℕ) × NewIn k row
