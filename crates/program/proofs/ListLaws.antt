-- The list of a place is decided: whether a variable occurs in a list of atoms, and in the list of a place.
use Prim.Native.Nat.{ℕ}
use mathlib.Core.List.{List, [], ◌∷◌}
use lib.ListN.{take, drop}
use Rattle.terms.specs.Term.{Term}
use Rattle.terms.proofs.Variables.{occ_decided, either_decided, both_decided}
use Rattle.program.specs.Program.{Clause}
use Rattle.program.specs.Shapes.{In, Listed}

unfoldable pub in_decided : (v : ℕ) (ts : List Term) → Dec (In v ts)
unfolding occ_decided either_decided
in_decided v [] = no (λ o. o)
in_decided v (t ∷ ts) = either_decided (occ_decided v t) (in_decided v ts)

unfoldable pub listed_decided : (c : Clause) (i v : ℕ) → Dec (Listed c i v)
unfolding in_decided both_decided
listed_decided c i v = both_decided (in_decided v (c.head ∷ take i c.body)) (in_decided v (c.head ∷ drop i c.body))
