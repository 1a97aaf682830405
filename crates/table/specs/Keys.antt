-- Rows as numbers, as the analysis keeps them: a slot for the kind, a and b of a row, and a key for the whole row.
use Rattle.std.specs.Prelude.{ℕ, zero, suc, ◌+◌, ◌-◌, ◌/◌, ◌%◌, ◌<◌, ◌≤◌, List, [], ◌∷◌, length, take, ltb}
use Rattle.terms.specs.Term.{Term, Occ}
use Rattle.terms.specs.Cells.{pick}
use Rattle.terms.specs.Mask.{Has}
use Rattle.program.specs.Limits.{masks, max_shapes}
use Rattle.program.specs.Program.{Nth, Clause, Program, bodies}
use Rattle.program.specs.Shapes.{shapes, Listed}
use Rattle.rows.specs.Rows.{key_of}
use Rattle.table.specs.Rules.{Row, call, cont, solution}
use Rattle.table.specs.Table.{mask}

-- the slots of calls stand below these of conts, and these below those of solutions
abbrev pub first_cont : ℕ
first_cont = max_shapes

abbrev pub first_solution : ℕ
first_solution = first_cont + max_shapes

-- the number of a clause's body atom among all body atoms "in program order", all counted from 0
abbrev pub body_index : Program → ℕ → ℕ → ℕ
body_index p k i = length (bodies (take k p.clauses)) + i

-- a row's place in the order of kind, a, b; "for conts a is the clause (from 1), b the place", from 1 too
abbrev pub slot_of : Program → Row ℕ → ℕ
slot_of p (call s M) = s
slot_of p (cont (suc k) (suc i) M) = first_cont + body_index p k i
slot_of p (cont (suc k) zero M) = first_cont
slot_of p (cont zero i M) = first_cont
slot_of p (solution s M) = first_solution + s

abbrev pub row_key : Program → Row ℕ → ℕ
row_key p row = key_of (slot_of p row) (mask row)

-- the clause of the body atom j of all, and its place in that clause
abbrev pub clause_at : List Clause → ℕ → ℕ
clause_at [] j = 0
clause_at (c ∷ cs) j = pick (ltb j (length c.body)) 0 (suc (clause_at cs (j - length c.body)))

abbrev pub place_at : List Clause → ℕ → ℕ
place_at [] j = 0
place_at (c ∷ cs) j = pick (ltb j (length c.body)) j (place_at cs (j - length c.body))

-- the row of a slot and a mask, and of a key
abbrev pub row_at : Program → ℕ → ℕ → Row ℕ
row_at p slot M =
    pick (ltb slot first_cont) (call slot M)
    (pick (ltb slot first_solution)
    (cont (suc (clause_at p.clauses (slot - first_cont))) (suc (place_at p.clauses (slot - first_cont))) M)
    (solution (slot - first_solution) M))

abbrev pub row_of : Program → ℕ → Row ℕ
row_of p key = row_at p (key / masks) (key % masks)

-- the slots are enough
pub record Few (p : Program) : Type 0 where
  pub shapes_few : length (shapes p) ≤ first_cont
  pub bodies_few : length (bodies p.clauses) ≤ first_cont

-- a row that the program can have: its shape, or its clause and place, exist, and its mask has no bit but of the shape's or the list's variables
pub data Regular (p : Program) : Row ℕ → Type 0 where
  regular_call : {s M : ℕ} {S : Term} → Nth (shapes p) s S → ((v : ℕ) → Has M v → Occ v S) → M < masks → Regular p (call s M)
  regular_cont : {k i M : ℕ} {c : Clause} {A : Term} → Nth p.clauses k c → Nth c.body i A → ((v : ℕ) → Has M v → Listed c i v) → M < masks
      → Regular p (cont (suc k) (suc i) M)
  regular_solution : {s M : ℕ} {S : Term} → Nth (shapes p) s S → ((v : ℕ) → Has M v → Occ v S) → M < masks → Regular p (solution s M)
