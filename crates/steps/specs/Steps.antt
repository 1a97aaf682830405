-- What a step adds to the rows: only what it may, and all that it must. In a round it may add what the rules give from the rows so far.
use Rattle.std.specs.Prelude.{ℕ, suc, ◌+◌, ◌*◌, ◌≤◌, ◌<◌, ◌≡◌, ◌⊎◌, length}
use mathlib.Core.List.{List, Memᴰ}
use Rattle.terms.specs.Term.{Term}
use Rattle.marks.specs.Modes.{modes, KeptTo, Renumbered}
use Rattle.program.specs.Program.{Nth, Clause, Program}
use Rattle.program.specs.Shapes.{shape_number, number, Listed}
use Rattle.program.specs.Limits.{row_size, max_rows}
use Rattle.rows.specs.Rows.{round_at, keys_of}
use Rattle.rows.specs.Store.{Store, SameRows}
use Rattle.table.specs.Rules.{Row, call, cont, Gives}
use Rattle.table.specs.Keys.{row_key, Regular}
use Rattle.table.specs.Added.{Behind, Full}
use Rattle.table.specs.RoundKeys.{Keyed}

-- the rows whose keys are in the list
abbrev pub RowsIn : Program → List ℕ → Row ℕ → Type 0
RowsIn p ks row = Regular p row × Memᴰ (row_key p row) ks

-- the keys of what the rules give from them
abbrev pub Given : Program → List ℕ → ℕ → Type 0
Given p ks = Keyed p (Gives modes p (RowsIn p ks))

-- there is a store of n rows to write behind, and the room is in the table
pub record Writable (table buckets : List ℕ) (n room : ℕ) : Type 0 where
  pub store : Store table buckets n
  pub within : n ≤ room
  pub room_most : room ≤ max_rows
  pub room_there : row_size * room ≤ length table

-- rows were added behind the first n, all with keys that the step may add, each with the round's number; and all that must be are there
pub record Grew (May : ℕ → Type 0) (round room n : ℕ) (table buckets : List ℕ) (Must : ℕ → Type 0) (n' : ℕ) (table' buckets' : List ℕ) : Type 0 where
  pub writable : Writable table' buckets' n' room
  pub more : n ≤ n'
  pub same_rows : SameRows table table' n
  pub same_length : length table' ≡ length table
  pub rounds : (r : ℕ) → n ≤ r → r < n' → round_at table' r ≡ round
  pub behind : Behind (keys_of table n) May (keys_of table' n')
  pub all : (key : ℕ) → Must key → Memᴰ key (keys_of table' n')

-- the room is full, and the step may add a row more
pub record Overfull (May : ℕ → Type 0) (room n : ℕ) (table : List ℕ) (n' : ℕ) : Type 0 where
  pub over : n' ≡ room + 1
  pub kept : List ℕ
  pub full : Full (keys_of table n) May room kept

abbrev pub Stepped : (ℕ → Type 0) → ℕ → ℕ → ℕ → List ℕ → List ℕ → (ℕ → Type 0) → ℕ → List ℕ → List ℕ → Type 0
Stepped May round room n table buckets Must n' table' buckets' =
    Grew May round room n table buckets Must n' table' buckets' ⊎ (Overfull May room n table n' × (length table' ≡ length table))

-- the rows that marks N, with which the rules come past the first i body atoms of clause k, give for the next atom
pub data Emitted (p : Program) (k i N : ℕ) : Row ℕ → Type 0 where
  emitted_call : {c : Clause} {A : Term} {R : ℕ} → Nth p.clauses k c → Nth c.body i A → Renumbered A (number A) N R
      → Emitted p k i N (call (shape_number p A) R)
  emitted_cont : {c : Clause} {A : Term} {R : ℕ} → Nth p.clauses k c → Nth c.body i A → KeptTo (Listed c i) N R
      → Emitted p k i N (cont (suc k) (suc i) R)
