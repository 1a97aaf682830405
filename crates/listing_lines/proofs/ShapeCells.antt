-- A shape's cells: an atom that stands in the directory, whose names are among the names.
use Prim.Native.Nat.{ℕ, suc, ◌+◌, ◌-◌, ◌<◌}
use native.Mathlib.Omega.{arith}
use mathlib.Core.Path.{◌≡◌, sym, ap, ◌∙◌}
use mathlib.Core.List.{List, [], ◌++◌}
use lib.ListN.{length, get_or, take, drop, take-append-drop}
use Rattle.terms.specs.Cells.{enc, Atom}
use Rattle.program.specs.Shapes.{shapes}
use Rattle.program.specs.Limits.{max_shapes}
use Rattle.directory.specs.Layout.{functions_start, clauses_start, shape_start, shape_cells, predicates_start, dir_words}
use Rattle.directory.specs.Directory.{Directory, ShapeAt}
use Rattle.directory.specs.From.{AtomFrom}
use Rattle.program.proofs.Nths.{nth_below}
use Rattle.directory.proofs.DirectoryLaws.{shape_sound}
use Rattle.text.specs.Put.{Put}
use Rattle.written_lines.specs.Tokens.{atom_tokens, behind_tabs}
use Rattle.written_lines.specs.Walked.{Named, Written}
use Rattle.written_lines.specs.declared.walked.Walked.{Walked}
use Rattle.listing_lines.specs.Asked.{ShapeAsked}

module _ {words dir names : List ℕ} {s : ℕ} (w : ShapeAsked words dir names s) where
  abbrev d : Directory words w.spoken.p dir
  d = w.spoken.setting.directory

  pub shape_few : (s < max_shapes) × (length dir ≡ dir_words)
  shape_few = (omega (arith, nth_below w.nth_shape, d.shape_count_law, d.shapes_most), d.size)

  module _ (from functions clauses : ℕ) (from_is : from ≡ get_or dir (shape_start + s) 0) (functions-is : functions ≡ get_or dir functions_start 0) (clauses-is : clauses ≡ get_or dir clauses_start 0) where
    -- the arities, as the code has them
    abbrev pub predicates : List ℕ
    predicates = take (functions - predicates_start) (drop predicates_start words)

    abbrev pub functions_part : List ℕ
    functions_part = take (clauses - functions) (drop functions words)

    predicates_said : predicates ≡ w.spoken.p.predicates
    predicates_said = rw functions-is d.predicates_are

    functions_said : functions_part ≡ w.spoken.p.functions
    functions_said = rw (functions-is, clauses-is) d.functions_are

    -- the shape's cells stand in the directory
    pub shape_cut : drop (shape_cells + from) dir ≡ enc w.S ++ drop (get_or dir (shape_start + s + 1) 0 - from) (drop (shape_cells + from) dir)
    shape_cut =
        let at : ShapeAt (shapes w.spoken.p) dir w.S s = d.shape w.nth_shape in
        let e : shape_start + s + 1 ≡ shape_start + suc s = omega arith in
        let run : take (get_or dir (shape_start + s + 1) 0 - from) (drop (shape_cells + from) dir) ≡ enc w.S = rw (from_is, e) at.stands.run in
        sym (take-append-drop (get_or dir (shape_start + s + 1) 0 - from) (drop (shape_cells + from) dir)) ∙ ap (λ (l : List ℕ). l ++ drop (get_or dir (shape_start + s + 1) 0 - from) (drop (shape_cells + from) dir)) run

    pub shape_atom_sound : Atom predicates functions_part w.S
    shape_atom_sound =
        rw (predicates_said, functions_said) (shape_sound words w.spoken.p w.spoken.setting.accepted dir w.spoken.setting.directory w.nth_shape)

    abbrev pub shape_from : AtomFrom dir (shape_cells + from) predicates functions_part
    shape_from = record { atom = w.S; rest = drop (get_or dir (shape_start + s + 1) 0 - from) (drop (shape_cells + from) dir); cut = shape_cut; sound = shape_atom_sound }

    -- and their names are among the names
    pub shape_named : Named names (length predicates) (length functions_part)
    shape_named = rw (predicates_said, functions_said) w.spoken.named

    -- and its tokens are the shape's
    pub shape_put : {rest before after : List ℕ} {end : ℕ} {r : Walked}
        → Written (behind_tabs (atom_tokens names (length predicates) [] (enc w.S))) rest dir before after end r
        → Put (behind_tabs (atom_tokens names (length w.spoken.p.predicates) [] (enc w.S))) before after end r.end
    shape_put written = rw predicates_said at written.put
