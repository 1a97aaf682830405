-- The reason why a "ground" can be trusted: a variable that every call row of a shape marks has a ground term at every call of that shape.
use Prim.Native.Nat.{ℕ}
use mathlib.Core.Path.{◌≡◌, sym, ap, ◌∙◌}
use Rattle.terms.specs.Term.{Term, Subst, sub, Occ, Ground}
use Rattle.terms.proofs.Substs.{agree_sub}
use Rattle.terms.specs.Mask.{Has}
use Rattle.marks.specs.Modes.{modes}
use Rattle.marks.proofs.Modes.{modes_sound}
use Rattle.program.specs.Program.{Nth, Program}
use Rattle.program.specs.Shapes.{shapes, shape_of}
use Rattle.program.proofs.ShapeLaws.{nth_same}
use Rattle.table.specs.Rules.{call, solution}
use Rattle.table.specs.Rounds.{Least}
use Rattle.runs.specs.Run.{Called, Solved}
use Rattle.runs.specs.Cover.{Covered}
use Rattle.runs.proofs.TableCovers.{least_covers_runs}

-- a covered atom has a ground term for each marked variable of its shape, however it is read as an instance of the shape
pub covered_ground : (p : Program) (s M : ℕ) (A S : Term) (σ : Subst) (v : ℕ) → Covered modes p s M A → Nth (shapes p) s S → A ≡ sub S σ
    → Occ v S → Has M v → Ground (σ v)
covered_ground p s M A S σ v by h reads o marked =
    let e : sub S σ ≡ sub S by.terms = sym reads ∙ by.reads ∙ ap (λ t. sub t by.terms) (nth_same by.numbered h) in
    rw (agree_sub S σ by.terms e v o) (by.holds v marked)

module _ (p : Program) (own : shape_of p.goal ≡ p.goal) (s : ℕ) (S : Term) (h : Nth (shapes p) s S) (v : ℕ) (o : Occ v S) where
  pub ground_at_calls : ((M : ℕ) → Least modes p p.grounded (call s M) → Has M v)
      → (n : ℕ) (A : Term) → Called modes p p.grounded n s A → (σ : Subst) → A ≡ sub S σ → Ground (σ v)
  ground_at_calls marked n A called σ reads =
      let (M, row, by) = (least_covers_runs modes modes_sound p p.grounded own).calls n s A called in
      covered_ground p s M A S σ v by h reads o (marked M row)

  -- and a variable that every solution row of the shape marks, when an atom of the shape is solved
  pub ground_at_solutions : ((M : ℕ) → Least modes p p.grounded (solution s M) → Has M v)
      → (n : ℕ) (A : Term) → Solved modes p p.grounded n s A → (σ : Subst) → A ≡ sub S σ → Ground (σ v)
  ground_at_solutions marked n A solved σ reads =
      let (M, row, by) = (least_covers_runs modes modes_sound p p.grounded own).solutions n s A solved in
      covered_ground p s M A S σ v by h reads o (marked M row)
