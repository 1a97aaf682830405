-- The shapes stay while cells are written behind them.
use Prim.Native.Nat.{ℕ, zero, suc, ◌+◌, ◌-◌, ◌≤◌, ◌<◌}
use native.Mathlib.Omega.{arith}
use mathlib.Core.Path.{◌≡◌, ◌∙◌}
use mathlib.Core.List.{List}
use lib.ListN.{length, get_or, set, length-set}
use lib.Seq.{get_or-set_other}
use Rattle.terms.specs.Term.{Term}
use Rattle.program.specs.Program.{Nth}
use Rattle.program.proofs.Nths.{below_nth, nth_below}
use Rattle.directory.specs.Layout.{shape_start, shape_vars, shape_next, predicate_shape, shape_cells}
use Rattle.directory.specs.Directory.{StandsAt, ShapeAt}
use Rattle.shaping.specs.Shaped.{Shaped}
use Rattle.directory.proofs.Parts.{parts_same}

module _ (P F : List ℕ) (ss : List Term) (dir : List ℕ) (w : Shaped P F ss dir) where
  starts_grow_by : (n s : ℕ) → s + n ≡ length ss → get_or dir (shape_start + s) 0 ≤ get_or dir (shape_start + length ss) 0
  starts_grow_by zero s e = let q : s ≡ length ss = omega arith in rw q (omega arith)
  starts_grow_by (suc n) s e =
      let (S, h) = below_nth ss s (omega arith) in
      let o = (w.shape h).ordered in
      let g = starts_grow_by n (suc s) (omega arith) in
      omega arith

  -- no shape's cells begin behind the last one's end
  pub starts_grow : (s : ℕ) → s ≤ length ss → get_or dir (shape_start + s) 0 ≤ get_or dir (shape_start + length ss) 0
  starts_grow s h = starts_grow_by (length ss - s) s (omega arith)

  -- the entries of the shapes stay, and the cells before the last one's end
  module _ (dir' : List ℕ) (size : length dir' ≡ length dir) (same : (x : ℕ) → shape_start ≤ x → x < shape_cells + get_or dir (shape_start + length ss) 0 → get_or dir' x 0 ≡ get_or dir x 0) where
    pub stands_kept : {s : ℕ} {S : Term} → Nth ss s S
        → StandsAt dir' S (shape_cells + get_or dir (shape_start + s) 0) (get_or dir (shape_start + suc s) 0 - get_or dir (shape_start + s) 0)
    stands_kept {s} {S} h =
        let t = (w.shape h).stands in
        let o = (w.shape h).ordered in
        let l = nth_below h in
        let g = starts_grow (suc s) (omega arith) in
        let f : shape_cells + get_or dir (shape_start + s) 0 + (get_or dir (shape_start + suc s) 0 - get_or dir (shape_start + s) 0) ≤ length dir' = rw size t.fits in
        record {
          run = parts_same dir' dir _ _ _ f t.fits (λ i less. same (shape_cells + get_or dir (shape_start + s) 0 + i) (omega arith) (omega arith)) ∙ t.run;
          fits = f;
          short = t.short;
        }

    pub shaped_kept : Shaped P F ss dir'
    shaped_kept =
        record {
          size = size ∙ w.size;
          declared = w.declared;
          many = w.many;
          start_zero = same (shape_start + 0) (omega arith) (omega arith) ∙ w.start_zero;
          total = let m = w.many in rw (same (shape_start + length ss) (omega arith) (omega arith)) w.total;
          shape = λ h. kept h;
          atom = w.atom;
          first = λ q l. rw (same (predicate_shape + q) (omega arith) (omega arith)) (w.first q l);
        }
      where
        kept : {s : ℕ} {S : Term} → Nth ss s S → ShapeAt ss dir' S s
        kept {s} {S} h =
            let l = nth_below h in
            let m = w.many in
            let a = w.shape h in
            record {
              stands = rw (same (shape_start + s) (omega arith) (omega arith), same (shape_start + suc s) (omega arith) (omega arith)) (stands_kept h);
              ordered = rw (same (shape_start + s) (omega arith) (omega arith), same (shape_start + suc s) (omega arith) (omega arith)) a.ordered;
              cells_most = rw (same (shape_start + suc s) (omega arith) (omega arith)) a.cells_most;
              shape_variables = λ v. rw (same (shape_vars + s) (omega arith) (omega arith)) (a.shape_variables v);
              few = rw (same (shape_vars + s) (omega arith) (omega arith)) a.few;
              next = rw (same (shape_next + s) (omega arith) (omega arith)) a.next;
            }

  -- an entry before those of the shapes is written
  pub shaped_set : (x v : ℕ) → x < shape_start → Shaped P F ss (set dir x v)
  shaped_set x v h = shaped_kept (set dir x v) (length-set dir x v) (λ y l _. get_or-set_other dir x y v 0 (λ z. omega arith))
