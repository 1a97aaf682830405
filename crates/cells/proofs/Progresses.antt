-- Laws of the numbers of a line: how a symbol's and a variable's cell change them.
use Prim.Native.Nat.{ℕ, ◌+◌, ◌-◌}
use mathlib.Core.Path.{◌≡◌}
use mathlib.Core.Bool.{cond}
use native.Mathlib.Omega.{arith}
use lib.Dec.{ltb}
use borrow.Author.Tests.{eq-eqb, ne_eqb}
use Rattle.cells.specs.declared.state.Progress.{Progress}
use Rattle.cells.specs.Room.{after_symbol, after_variable}

module _ (p : Progress) (arity : ℕ) where
  pub after_symbol_starts : p.wanted ≡ 0
      → record { wanted = arity; cells = 1; atoms = p.atoms + 1; variables = p.variables; words = p.words + 1 } ≡ after_symbol p arity
  after_symbol_starts e =
      let w : arity ≡ p.wanted - 1 + arity = omega arith in
      rw (eq-eqb p.wanted 0 e)
      (λ i. record { wanted = w i; cells = 1; atoms = p.atoms + 1; variables = p.variables; words = p.words + 1 })

  pub after_symbol_goes_on : (p.wanted ≡ 0 → ⊥)
      → record { wanted = p.wanted - 1 + arity; cells = p.cells + 1; atoms = p.atoms; variables = p.variables; words = p.words + 1 }
      ≡ after_symbol p arity
  after_symbol_goes_on n = rw (ne_eqb p.wanted 0 n)

pub after_variable_is : (p : Progress) (v w m : ℕ) → w ≡ p.wanted - 1 → m ≡ cond (ltb v p.variables) p.variables (p.variables + 1)
    → record { wanted = w; cells = p.cells + 1; atoms = p.atoms; variables = m; words = p.words + 1 } ≡ after_variable p v
after_variable_is p v w m e f i =
    record { wanted = e i; cells = p.cells + 1; atoms = p.atoms; variables = f i; words = p.words + 1 }
