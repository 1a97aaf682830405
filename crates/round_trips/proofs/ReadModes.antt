-- The modes of a line's variables, as its tokens give them: one for each variable met, and those before stay.
use Prim.Native.Nat.{ℕ, zero, suc, ◌+◌, ◌≤◌, ◌<◌}
use native.Mathlib.Omega.{arith}
use mathlib.Core.Path.{◌≡◌, refl, ap, ◌∙◌}
use mathlib.Core.Bool.{Bool, true, false, cond}
use mathlib.Core.List.{List, [], ◌∷◌, ◌++◌}
use lib.ListN.{length, get_or, length-append, get_or-append}
use lib.Seq.{get_or_at}
use lib.Dec.{ltb}
use borrow.Author.Tests.{ltb-true, ltb-false}
use Rattle.program.specs.Limits.{any_mode, ground_mode}
use Rattle.program.specs.Atoms.{meet}
use Rattle.program.specs.Within.{Each, none, more}
use Rattle.cells.specs.Cells.{Row, mode_of, no_cells, with_variable}
use Rattle.round_trips.proofs.Printed.{each_append}

-- a mode for each variable met, and in a clause none is ground
pub record Modal (query : Bool) (r : Row) : Type 0 where
  pub met : length r.modes ≡ r.variables
  pub each : Each (λ m. m ≤ ground_mode) r.modes
  pub any : query ≡ false → (v : ℕ) → get_or r.modes v 0 ≡ any_mode

pub no_modes : (query : Bool) → Modal query no_cells
no_modes query = record { met = refl; each = none; any = λ e v. refl }

any_behind : (ms : List ℕ) → ((v : ℕ) → get_or ms v 0 ≡ 0) → (v : ℕ) → get_or (ms ++ 0 ∷ []) v 0 ≡ 0
any_behind [] h zero = refl
any_behind [] h (suc v) = refl
any_behind (m ∷ ms) h zero = h 0
any_behind (m ∷ ms) h (suc v) = any_behind ms (λ u. h (suc u)) v

mode_small : (grounded : Bool) → mode_of grounded ≤ ground_mode
mode_small true = omega arith
mode_small false = omega arith

module _ (query : Bool) (r : Row) (v : ℕ) (grounded : Bool) (modal : Modal query r) (known : v ≤ r.variables) where
  abbrev modes_at : Bool → List ℕ
  modes_at b = cond b r.modes (r.modes ++ mode_of grounded ∷ [])

  pub variable_modal : (query ≡ false → grounded ≡ false) → Modal query (with_variable r v grounded)
  variable_modal plain = record { met = met (ltb v r.variables); each = each (ltb v r.variables); any = any (ltb v r.variables) }
    where
      met : (b : Bool) → length (modes_at b) ≡ cond b r.variables (r.variables + 1)
      met true = modal.met
      met false = length-append r.modes (mode_of grounded ∷ []) ∙ ap (λ (n : ℕ). n + 1) modal.met

      each : (b : Bool) → Each (λ m. m ≤ ground_mode) (modes_at b)
      each true = modal.each
      each false = each_append r.modes (mode_of grounded ∷ []) modal.each (more (mode_small grounded) none)

      any : (b : Bool) → query ≡ false → (u : ℕ) → get_or (modes_at b) u 0 ≡ any_mode
      any true e u = modal.any e u
      any false e u = rw (plain e) (any_behind r.modes (modal.any e) u)

  -- the modes before stay
  pub variable_keeps : (u : ℕ) → u < r.variables → get_or (with_variable r v grounded).modes u 0 ≡ get_or r.modes u 0
  variable_keeps u h = by (ltb v r.variables)
    where
      by : (b : Bool) → get_or (modes_at b) u 0 ≡ get_or r.modes u 0
      by true = refl
      by false = get_or-append r.modes (mode_of grounded ∷ []) 0 u (omega (arith, modal.met))

  pub variable_mode : (v < r.variables → get_or r.modes v 0 ≡ mode_of grounded) → get_or (with_variable r v grounded).modes v 0 ≡ mode_of grounded
  variable_mode h = by (ltb v r.variables) refl
    where
      by : (b : Bool) → ltb v r.variables ≡ b → get_or (modes_at b) v 0 ≡ mode_of grounded
      by true e = h (ltb-true v r.variables e)
      by false e = let l = ltb-false v r.variables e in get_or_at r.modes (mode_of grounded) [] 0 v (omega (arith, modal.met))

  -- the variables met are those that the program's reading meets
  pub variable_meets : (with_variable r v grounded).variables ≡ meet r.variables v
  variable_meets = by (ltb v r.variables) refl
    where
      by : (b : Bool) → ltb v r.variables ≡ b → cond b r.variables (r.variables + 1) ≡ meet r.variables v
      by true e = rw e
      by false e = let l = ltb-false v r.variables e in rw e (omega arith)

  pub variable_within : v < (with_variable r v grounded).variables
  variable_within = by (ltb v r.variables) refl
    where
      by : (b : Bool) → ltb v r.variables ≡ b → v < cond b r.variables (r.variables + 1)
      by true e = ltb-true v r.variables e
      by false e = omega arith

  pub variables_grow : r.variables ≤ (with_variable r v grounded).variables
  variables_grow = by (ltb v r.variables)
    where
      by : (b : Bool) → r.variables ≤ cond b r.variables (r.variables + 1)
      by true = omega arith
      by false = omega arith
