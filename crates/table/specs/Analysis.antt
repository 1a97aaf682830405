-- What a table is a table of, whatever its rows and its rules: the rows of the least set, each with its round, in the order of their words; and when they are more than the room.
use Rattle.std.specs.Prelude.{ℕ, zero, suc, ◌-◌, ◌/◌, ◌<◌, min, ◌≡◌, ◌⊎◌, length, take, drop}
use mathlib.Core.List.{List, [], ◌∷◌, ◌++◌, Memᴰ}
use Rattle.program.specs.Limits.{max_rows}
use Rattle.program.specs.Lists.{Distinct}
use Rattle.table.specs.Rounds.{FirstIn, InSome}

pub record Analysis : Type 1 where
  pub Row : Type 0
  -- "Round 0 has one row"
  pub start : Row
  -- what the rules give from a set of rows
  pub Rules : (Row → Type 0) → Row → Type 0
  -- the words of a row behind its round, and how many words a row has with it (`Computes` asks that all have as many)
  pub words : Row → List ℕ
  pub size : ℕ

-- a row with its round
pub record Dated (R : Type 0) : Type 0 where
  pub round : ℕ
  pub row : R

-- the first of two lists of words stands before the second: it is less at the first word in which they differ
abbrev pub Before : List ℕ → List ℕ → Type 0
Before [] ws = ⊥
Before (v ∷ vs) [] = ⊥
Before (v ∷ vs) (w ∷ ws) = (v < w) ⊎ ((v ≡ w) × Before vs ws)

module _ {R : Type 0} (words : R → List ℕ) where
  -- the round stands first
  abbrev pub dated_words : Dated R → List ℕ
  dated_words e = e.round ∷ words e.row

  abbrev pub all_words : List (Dated R) → List ℕ
  all_words [] = []
  all_words (e ∷ entries) = dated_words e ++ all_words entries

  -- "Rows stand in ascending order of their .. words. A row appears once": each entry before all behind it
  abbrev pub Ascends : List (Dated R) → Type 0
  Ascends [] = Unit {0}
  Ascends (e ∷ entries) = ((f : Dated R) → Memᴰ f entries → Before (dated_words e) (dated_words f)) × Ascends entries

-- the row is one of the first n that stand in these words, each of `size` words, its round first
abbrev pub StandsAmong : {R : Type 0} → (R → List ℕ) → ℕ → ℕ → List ℕ → R → Type 0
StandsAmong words size zero ws row = ⊥
StandsAmong words size (suc n) ws row = (take (size - 1) (drop 1 ws) ≡ words row) ⊎ StandsAmong words size n (drop size ws) row

-- "The room in rows is the length over" the size of a row, "rounded down, but at most 4,096."
abbrev pub room_of : ℕ → ℕ → ℕ
room_of row_size length = min (length / row_size) max_rows

module _ (A : Analysis) where
  -- the table: an entry for each row of the least set, with the round in which it first appears, and for nothing else
  pub record IsTable (entries : List (Dated A.Row)) : Type 0 where
    pub ascending : Ascends A.words entries
    pub all : (k : ℕ) (row : A.Row) → FirstIn A.start A.Rules k row → Memᴰ (record { round = k; row = row }) entries
    pub only : (e : Dated A.Row) → Memᴰ e entries → FirstIn A.start A.Rules e.round e.row

  -- the least set has more than n rows
  pub record Exceeds (n : ℕ) : Type 0 where
    pub rows : List A.Row
    pub distinct : Distinct rows
    pub appear : (row : A.Row) → Memᴰ row rows → InSome A.start A.Rules row
    pub more : n < length rows
