-- `declarations::fields::two_fields` meets its contract: the fields are counted as far as the third. Assumes nothing.
use Prim.Native.Nat.{ℕ, ◌+◌}
use mathlib.Core.Path.{◌≡◌, refl, ap, ◌∙◌}
use mathlib.Core.List.{List, [], ◌∷◌}
use native.Mathlib.Omega.{arith}
use lib.ListN.{length, drop}
use Rattle.program.specs.Lists.{between}
use Rattle.text.specs.Line.{up_to, tab}
use Rattle.cells.proofs.FieldCuts.{field_within, behind_next, behind_none}
use Rattle.declarations.proofs.fields.two_fields.Goals as goal

pub returns-then-line-middle : goal.returns-then-line-middle
returns-then-line-middle c = let a = c.args in
    λ at f. rw (behind_next a.line.now a.from c.find-middle.result (omega arith) c.find-middle.ensures, behind_none a.line.now c.find-middle.result c.if-line-middle.true)

pub returns-then-end-line : goal.returns-then-end-line
returns-then-end-line c = let a = c.args in
    let s = a.line.now in
    let e = c.find-end.result in
    λ at f. rw (behind_next s a.from c.find-middle.result (omega arith) c.find-middle.ensures, behind_next s c.find-middle.result e (omega arith) c.find-end.ensures, behind_next s e (e + 1 + length (up_to tab (drop (e + 1) s))) (omega arith) refl)

pub returns : goal.returns
returns c = let a = c.args in
    let s = a.line.now in
    let e = c.find-end.result in
    let m = c.find-middle.result in
    let w = field_within s m e (omega arith) c.find-end.ensures in let whole : e ≡ length s = omega arith in (
      omega (arith, c.find-middle.ensures),
      omega arith,
      behind_next s a.from m (omega arith) c.find-middle.ensures
          ∙ ap (λ (l : List (List ℕ)). between s (a.from + 1) m ∷ l) (behind_next s m e (omega arith) c.find-end.ensures
          ∙ ap (λ (l : List (List ℕ)). between s (m + 1) e ∷ l) (behind_none s e (omega arith)) ∙ ap (λ (k : ℕ). between s (m + 1) k ∷ []) whole),
    )
