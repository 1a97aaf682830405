-- `atom_cells` meets its contract: behind the predicate's word stand as many terms as its arity says. Assumes nothing.
use native.Mathlib.Omega.{arith}
use mathlib.Core.Path.{◌≡◌, ap, ◌∙◌}
use Prim.Native.Nat.{ℕ, ◌+◌}
use lib.ListN.{length}
use Rattle.terms.specs.Cells.{enc}
use Rattle.directory.proofs.AtomsFrom.{atom_length, atom_short}
use Rattle.directory.proofs.places.atom_cells.Goals as goal

pub overflow_add-result : goal.overflow_add-result
overflow_add-result c = let e : 1 + c.terms_end.result ≡ length (enc c.requires.atom) = ap (λ (n : ℕ). 1 + n) c.terms_end.ensures ∙ rw (c.from-arity.ensures, c.from-q.ensures) (atom_length _ _ _ _ c.requires) in omega (arith, atom_short _ _ _ _ c.requires)

pub returns : goal.returns
returns c = λ a. ap (λ (n : ℕ). 1 + n) c.terms_end.ensures ∙ rw (c.from-arity.ensures, c.from-q.ensures) (atom_length _ _ _ _ a)
