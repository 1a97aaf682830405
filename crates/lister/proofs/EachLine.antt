-- A closure that writes the line of each row, or of each shape, writes the texts of those lines one behind another.
use Prim.Native.Nat.{ℕ}
use mathlib.Core.Path.{◌≡◌}
use mathlib.Core.List.{List}
use lib.ListN.{length, get_or}
use denote.Ref.{MutBor}
use denote.Param.Members.{Shared}
use Rattle.terms.specs.Term.{var}
use Rattle.program.specs.Shapes.{shapes}
use Rattle.program.proofs.ShapeLaws.{nth_get_d}
use Rattle.directory.specs.Layout.{shape_count}
use Rattle.text.specs.Put.{Put}
use Rattle.listing_lines.specs.Lines.{shape_line, row_line}
use Rattle.listing_lines.specs.Asked.{RowIn, Spoken, ShapeAsked}
use Rattle.lister.specs.Joined.{WritesEach}
use Rattle.lister.specs.Asked.{Tabled}
use Rattle.lister.proofs.LineLaws.{shape_text, row_text, row_in, next_row, next_shape}

module _ {F : Type 0} {g : Shared F (ℕ × (MutBor (List ℕ) × Unit {0})) (ℕ × (MutBor (List ℕ) × Unit {0}))} {f : F} where
  pub each_row : {dir table : List ℕ} {rows : ℕ} (w : Tabled dir table rows)
      → ((i : ℕ) (tail : MutBor (List ℕ)) → RowIn dir table i → g.pre f (i, (tail, tt)))
      → ((i : ℕ) (tail after : MutBor (List ℕ)) (r : ℕ) → g.post f (i, (tail, tt)) (r, (after, tt)) → (q : RowIn dir table i) → Put (row_line q.p q.round q.row) tail.now after.now 0 r)
      → WritesEach g f (row_text w.p w.entries) rows
  each_row w accepts writes =
      record {
        accepts = λ i tail h. accepts i tail (row_in w (next_row w i h).1);
        writes = λ i tail after r h called.
            let (e, nth) = next_row w i h in
            rw (nth_get_d _ nth) (writes i tail after r called (row_in w nth));
      }

  pub each_shape : {words dir names : List ℕ} (w : Spoken words dir names) (count : ℕ) → count ≡ get_or dir shape_count 0
      → ((i : ℕ) (tail : MutBor (List ℕ)) → ShapeAsked words dir names i → g.pre f (i, (tail, tt)))
      → ((i : ℕ) (tail after : MutBor (List ℕ)) (r : ℕ) → g.post f (i, (tail, tt)) (r, (after, tt)) → (q : ShapeAsked words dir names i)
      → Put (shape_line names (length q.spoken.p.predicates) i q.S) tail.now after.now 0 r)
      → WritesEach g f (shape_text names (length w.p.predicates) (shapes w.p)) count
  each_shape w count count_is accepts writes =
      record {
        accepts = λ i tail h. accepts i tail (next_shape w i count count_is h);
        writes = λ i tail after r h called.
            let a = next_shape w i count count_is h in
            rw (nth_get_d (var 0) a.nth_shape) (writes i tail after r called a);
      }
