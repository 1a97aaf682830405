-- Masks of the variables of atoms: they fit a word, and those of several atoms are put together.
use Prim.Native.Nat.{ℕ, ◌+◌, ◌-◌, ◌<◌}
use mathlib.Core.Path.{◌≡◌, ◌∙◌}
use mathlib.Core.Logic.{◌↔◌}
use mathlib.Core.List.{List}
use lib.ListN.{take, drop}
use Rattle.terms.specs.Term.{Occ}
use Rattle.terms.specs.Cells.{variables, enc}
use Rattle.terms.specs.Mask.{Has, Marks}
use Rattle.terms.specs.Walk.{InRun, Cells, Present}
use Rattle.terms.proofs.Masks.{marks_below}
use Rattle.terms.proofs.RunVariables.{atom_variables}
use Rattle.directory.specs.Lists.{VariablesAt}
use Rattle.directory.proofs.Cuts.{middle_part}
use Rattle.directory.proofs.TermCells.{atom_all_cells, atom_in_run}

module _ (words : List ℕ) (start cells : ℕ) (a : VariablesAt words start cells) where
  run_is : take (start + cells - start) (drop start words) ≡ enc a.atom
  run_is = middle_part words start cells ∙ a.stands.run

  pub run_cells : Cells (take (start + cells - start) (drop start words))
  run_cells = rw run_is (atom_all_cells a.predicates a.functions a.few a.atom a.sound)

  pub present_marks : (mask : ℕ) → Present (take (start + cells - start) (drop start words)) mask → Marks (λ v. Occ v a.atom) mask
  present_marks mask h v =
      let same = atom_in_run a.predicates a.functions a.few a.atom a.sound v in
      let q : Has mask v ↔ InRun v (enc a.atom) = rw run_is at (h v) in
      (λ b. same.0 (q.0 b), λ o. q.1 (same.1 o))

  pub present_fits : (mask : ℕ) → Present (take (start + cells - start) (drop start words)) mask → mask < 65536
  present_fits mask h = marks_below variables mask (λ v b. atom_variables a.sound v ((present_marks mask h v).0 b))
