-- The rounds, the round of a row, and the least closed set of rows: under any rules, and under the mode rules.
use Rattle.std.specs.Prelude.{ℕ, zero, suc, ◌<◌, ◌≡◌, ◌⊎◌}
use Rattle.marks.specs.Domain.{Domain}
use Rattle.program.specs.Program.{Program}
use Rattle.table.specs.Rules.{Row, call, Gives}

-- of any rows: `Rules T` is what the rules give from the set of rows T. They give nothing outside a closed set.
abbrev pub ClosedUnder : {R : Type 0} → ((R → Type 0) → R → Type 0) → (R → Type 0) → Type 0
ClosedUnder {R} Rules T = (row : R) → Rules T row → T row

-- `start` is the row of round 0
module _ {R : Type 0} (start : R) (Rules : (R → Type 0) → R → Type 0) where
  -- "Round 0 has one row, the goal's call. Round k+1 adds all that the rules give from the rows so far."
  abbrev pub InRound : ℕ → R → Type 0
  InRound zero row = row ≡ start
  InRound (suc k) row = InRound k row ⊎ Rules (InRound k) row

  -- the round in which a row first appears
  abbrev pub FirstIn : ℕ → R → Type 0
  FirstIn k row = InRound k row × ((j : ℕ) → j < k → InRound j row → ⊥)

  -- "The table is the least set of rows closed under the mode rules": the rows of every closed set that has the row of round 0
  abbrev pub LeastOf : R → Type 1
  LeastOf row = (T : R → Type 0) → ClosedUnder Rules T → T start → T row

  -- the union of the rounds: the rows that appear in some round
  abbrev pub InSome : R → Type 0
  InSome row = (k : ℕ) × InRound k row

-- of the mode rules, from the goal's call
abbrev pub Closed : (D : Domain) (p : Program) → (Row D.Mark → Type 0) → Type 0
Closed D p = ClosedUnder (Gives D p)

module _ (D : Domain) (p : Program) (goal : D.Mark) where
  abbrev pub At : ℕ → Row D.Mark → Type 0
  At = InRound (call 0 goal) (Gives D p)

  abbrev pub First : ℕ → Row D.Mark → Type 0
  First = FirstIn (call 0 goal) (Gives D p)

  abbrev pub Least : Row D.Mark → Type 1
  Least = LeastOf (call 0 goal) (Gives D p)

  abbrev pub Appears : Row D.Mark → Type 0
  Appears = InSome (call 0 goal) (Gives D p)
