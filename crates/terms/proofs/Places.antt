-- Places in one of two atoms: which cells stand there.
use Prim.Native.Nat.{ℕ, ◌-◌, ◌≤◌, ◌<◌}
use mathlib.Core.Path.{◌≡◌, sym}
use mathlib.Core.List.{List}
use native.Mathlib.Omega.{arith}
use lib.ListN.{length, take, drop, length-drop}
use lib.Seq.{length-take-le}
use borrow.Author.Tests.{lt-ltb, le-ltb}
use Rattle.terms.specs.Cells.{Run}
use Rattle.terms.specs.Walk.{cells_of}
use Rattle.terms.proofs.Steps.{run_within}
use Rattle.terms.specs.Store.{second_atom, cells_at}

pub cells_first : (a b : List ℕ) (p : ℕ) → p < second_atom → cells_at a b p ≡ drop p a
cells_first a b p h = rw (lt-ltb p second_atom h)

pub cells_second : (a b : List ℕ) (p : ℕ) → second_atom ≤ p → cells_at a b p ≡ drop (p - second_atom) b
cells_second a b p h = rw (le-ltb p second_atom h)

-- where cells stand from a place on, the place is within
pub place_within : (l : List ℕ) (p : ℕ) → 0 < length (drop p l) → p < length l
place_within l p h = let e = length-drop p l in omega arith

-- a term is as long as the cells that it has
pub run_length : (F l : List ℕ) → Run F l 1 → cells_of F l 1 ≡ length (take (cells_of F l 1) l)
run_length F l r = sym (length-take-le (cells_of F l 1) l (run_within F l 1 r))
