-- The number of an atom's shape: its cells are renumbered behind the shapes, sought, and kept where they are new.
use Prim.Native.Nat.{ℕ, zero, suc, ◌+◌, ◌-◌, ◌≤◌, ◌<◌}
use native.Mathlib.Omega.{arith}
use native.Mathlib.Decide.{ℕ_discrete}
use mathlib.Core.Path.{◌≡◌, refl, sym, ap, subst, ◌∙◌}
use mathlib.Core.Logic.{inl, inr, ◌↔◌}
use mathlib.Core.Bool.{Bool, true, false}
use mathlib.Core.List.{List, [], ◌∷◌, ◌++◌, Memᴰ}
use lib.ListN.{length, get_or, take, drop, length-append}
use lib.Dec.{ltb}
use borrow.Author.Tests.{ltb-false}
use Rattle.terms.specs.Term.{Term, same_term, Occ}
use Rattle.terms.specs.Cells.{first_variable, variables, enc, encs}
use Rattle.terms.specs.Walk.{InRun, Cells}
use Rattle.program.specs.Limits.{max_declared, max_shapes}
use Rattle.program.specs.Shapes.{place, met, number, shape_of}
use Rattle.program.proofs.ShapeLaws.{place_nth, met_has}
use Rattle.program.proofs.OwnShape.{with_old, with_new}
use Rattle.program.proofs.Nths.{nth_below}
use Rattle.directory.specs.Layout.{shape_start, shape_next, predicate_shape, shape_cells, dir_words}
use Rattle.directory.specs.Directory.{StandsAt}
use Rattle.directory.specs.Numbers.{met_cells, Known, Numbered, renamed, number_in, IsInTable, Renumbered}
use Rattle.shaping.specs.Shaped.{Shaped, Sought, FoundAs, added_to, Asked, Answered}
use Rattle.std.specs.Prelude.{Ok, Err}
use Rattle.directory.proofs.Cuts.{middle_part}
use Rattle.directory.proofs.Parts.{part_length, part_at, part_is}
use Rattle.directory.proofs.TermCells.{atom_met, atom_all_cells, atom_in_run}
use Rattle.directory.proofs.ShapeVariables.{met_few, shape_variables}
use Rattle.directory.proofs.ShapeAtoms.{shape_length, shape_cell, shape_predicate, shape_atom}
use Rattle.shaping.proofs.ShapeSearch.{predicate_declared, place_missing, member_by_place}
use Rattle.shaping.proofs.ShapeKept.{shaped_kept}
use Rattle.shaping.proofs.ShapeAdded.{slot_within, before_kept, new_end, shape_added}

in_run_at : (cells : List ℕ) (i v : ℕ) → i < length cells → get_or cells i 0 ≡ first_variable + v → InRun v cells
in_run_at [] i v h e = absurd (omega arith)
in_run_at (c ∷ cs) zero v h e = inl e
in_run_at (c ∷ cs) (suc i) v h e = inr (in_run_at cs i v (omega arith) e)

module _ (words dir : List ℕ) (start cells count : ℕ) (a : Asked words dir start cells count) where
  abbrev run : List ℕ
  run = take (start + cells - start) (drop start words)

  abbrev few : length a.predicates ≤ max_declared
  few = a.shaped.declared

  pub run_is : run ≡ enc a.atom
  run_is = middle_part words start cells ∙ a.stands.run

  pub run_length : length run ≡ cells
  run_length = ap length (middle_part words start cells) ∙ part_length words start cells a.stands.fits

  pub run_all_cells : Cells run
  run_all_cells = rw run_is (atom_all_cells a.predicates a.functions few a.atom a.sound)

  run_met : met_cells [] run ≡ met [] a.atom
  run_met = rw run_is (atom_met a.predicates a.functions few a.atom a.sound)

  -- the atom has a first cell: its predicate
  pub start_within : start < length words
  start_within =
      let e : length (enc a.atom) ≡ cells = sym (ap length run_is) ∙ run_length in
      let q : length (enc a.atom) ≡ suc (length (encs a.sound.arguments)) = ap (λ (t : Term). length (enc t)) a.sound.is in
      let f = a.stands.fits in
      omega arith

  pub start_predicate : get_or words start 0 ≡ a.sound.predicate
  start_predicate =
      let e : length (enc a.atom) ≡ cells = sym (ap length run_is) ∙ run_length in
      let q : length (enc a.atom) ≡ suc (length (encs a.sound.arguments)) = ap (λ (t : Term). length (enc t)) a.sound.is in
      let z : start ≡ start + 0 = omega arith in
      ap (λ (n : ℕ). get_or words n 0) z ∙ sym (part_at words start cells 0 (omega arith)) ∙ ap (λ (l : List ℕ). get_or l 0 0) a.stands.run
      ∙ ap (λ (t : Term). get_or (enc t) 0 0) a.sound.is

  module _ (table : List ℕ) (n : ℕ) (h : Numbered (met_cells [] run) table n) where
    pub variables_counted : n ≡ length (met [] a.atom)
    variables_counted = h.count ∙ ap length run_met

    pub variables_few : n ≤ variables
    variables_few = rw variables_counted (met_few a.predicates a.functions a.atom a.sound)

    abbrev cell : ℕ → ℕ
    cell i = get_or run i 0

    -- a variable of the run is in the table
    in_met : (i : ℕ) → i < length run → first_variable ≤ cell i → Memᴰ (cell i - first_variable) (met_cells [] run)
    in_met i l v =
        let x = cell i - first_variable in
        let e : cell i ≡ first_variable + x = omega arith in
        let o : Occ x a.atom = (atom_in_run a.predicates a.functions few a.atom a.sound x).0 (subst (λ (cs : List ℕ). InRun x cs) run_is (in_run_at run i x l e)) in
        rw run_met (met_has a.atom [] x o)

    table_is : (i : ℕ) → i < length run → first_variable ≤ cell i
        → (get_or table (cell i - first_variable) 0 ≡ suc (place ℕ_discrete (cell i - first_variable) (met_cells [] run)))
    table_is i l v = by (h.known (cell i - first_variable) (let q = run_all_cells i l in omega arith))
      where
        by : Known (met_cells [] run) table (cell i - first_variable) → get_or table (cell i - first_variable) 0 ≡ suc (place ℕ_discrete (cell i - first_variable) (met_cells [] run))
        by (inl (nm, _)) = absurd (nm (in_met i l v))
        by (inr (_, e)) = e

    pub in_table : (i : ℕ) → i < length run → IsInTable table (cell i)
    in_table i l v =
        let e = table_is i l v in
        let m = nth_below (place_nth ℕ_discrete (cell i - first_variable) (met_cells [] run) (in_met i l v)) in
        let k = h.count in
        let f = variables_few in
        (run_all_cells i l, omega arith, omega arith)

    cell_renamed : (i : ℕ) → i < length run → renamed (number_in table) (cell i) ≡ renamed (number a.atom) (cell i)
    cell_renamed i l = by (ltb (cell i) first_variable) refl
      where
        by : (b : Bool) → ltb (cell i) first_variable ≡ b → renamed (number_in table) (cell i) ≡ renamed (number a.atom) (cell i)
        by true t = rw t
        by false t =
            let e = table_is i l (ltb-false _ _ t) in
            let q : number_in table (cell i - first_variable) ≡ place ℕ_discrete (cell i - first_variable) (met_cells [] run) = omega arith in
            rw t (ap (λ (k : ℕ). first_variable + k) (q ∙ ap (place ℕ_discrete (cell i - first_variable)) run_met))

    module _ (dir₁ : List ℕ) (r : Renumbered run table dir dir₁ (shape_cells + get_or dir (shape_start + count) 0) (length run)) where
      abbrev to : ℕ
      to = shape_cells + get_or dir (shape_start + count) 0

      pub shape_stands : StandsAt dir₁ (shape_of a.atom) to cells
      shape_stands =
          let z = a.shaped.size in
          let room = a.room in
          let e : length (enc a.atom) ≡ cells = sym (ap length run_is) ∙ run_length in
          let fits : to + cells ≤ length dir₁ = rw r.size (omega arith) in
          record {
            run =
                part_is dir₁ to cells (enc (shape_of a.atom)) fits (shape_length a.predicates a.functions few a.atom a.sound ∙ e)
                (λ i l. let m : i < length run = rw run_length l in
                r.written i m ∙ cell_renamed i m ∙ ap (λ (w : List ℕ). renamed (number a.atom) (get_or w i 0)) run_is
                ∙ sym (shape_cell a.predicates a.functions few a.atom a.sound i));
            fits = fits;
            short = a.stands.short;
          }

      pub still_shaped : Shaped a.predicates a.functions a.ss dir₁
      still_shaped = shaped_kept a.predicates a.functions a.ss dir a.shaped dir₁ r.size (λ x _ l. r.kept x (rw a.counted l))

      abbrev pub sought : Sought dir₁ (get_or words start 0) cells to
      sought =
          record {
            predicates = a.predicates;
            functions = a.functions;
            ss = a.ss;
            shaped = still_shaped;
            S = shape_of a.atom;
            sound = shape_atom a.predicates a.functions few a.atom a.sound;
            is_q = shape_predicate a.predicates a.functions few a.atom a.sound ∙ sym start_predicate;
            stands = shape_stands;
          }

      before_same : (x : ℕ) → x < shape_start → get_or dir₁ x 0 ≡ get_or dir x 0
      before_same x l = r.kept x (omega arith)

      start_same : (x : ℕ) → x ≤ max_shapes → get_or dir₁ (shape_start + x) 0 ≡ get_or dir (shape_start + x) 0
      start_same x l = r.kept (shape_start + x) (omega arith)

      -- the shape is there
      pub old_answer : (s : ℕ) → FoundAs a.ss (shape_of a.atom) (get_or words start 0) (Ok s)
          → Answered a.predicates a.functions a.ss a.atom cells dir dir₁ s
      old_answer s f =
          let m = member_by_place same_term a.ss (shape_of a.atom) (rw f.1 f.0) in
          let e = with_old same_term a.ss (shape_of a.atom) m in
          let q = a.counted in
          let k = a.more in
          record {
            number = sym f.1;
            shaped = rw e still_shaped;
            total = rw (e, start_same (length a.ss) (omega arith)) (omega arith);
            kept = before_same;
          }

      module _ (slot : ℕ) (f : FoundAs a.ss (shape_of a.atom) (get_or words start 0) (Err slot)) where
        abbrev end : ℕ
        end = get_or dir (shape_start + count) 0 + cells

        more : length a.ss < max_shapes
        more = rw a.counted at a.more

        total_same : get_or dir₁ (shape_start + count) 0 ≡ get_or dir (shape_start + count) 0
        total_same = start_same count (let k = a.more in omega arith)

        vars_are : (v : ℕ) → Occ v (shape_of a.atom) ↔ (v < n)
        vars_are v = rw variables_counted (shape_variables a.atom v)

        stands_there : StandsAt dir₁ (shape_of a.atom) (shape_cells + get_or dir₁ (shape_start + count) 0) cells
        stands_there = rw total_same shape_stands

        slot_bounds : (predicate_shape ≤ slot) × (slot < shape_next + length a.ss)
        slot_bounds =
            slot_within a.predicates a.functions a.ss dir₁ still_shaped more (shape_of a.atom) sought.sound (get_or words start 0) slot sought.is_q f.1
            (predicate_declared dir₁ (get_or words start 0) cells to sought) count n end cells a.counted (ap (λ (k : ℕ). k + cells) (sym total_same)) a.room stands_there vars_are variables_few

        pub slot_in : slot < dir_words
        slot_in = let l = slot_bounds in let m = more in omega arith

        -- the shape is new
        pub new_answer : Answered a.predicates a.functions a.ss a.atom cells dir (added_to dir₁ slot count n end) count
        new_answer =
            let e = with_new same_term a.ss (shape_of a.atom) f.0 in
            let len : length (a.ss ++ (shape_of a.atom ∷ [])) ≡ count + 1 = length-append a.ss (shape_of a.atom ∷ []) ∙ ap (λ (k : ℕ). k + 1) (sym a.counted) in
            record {
              number = a.counted ∙ sym (place_missing same_term a.ss (shape_of a.atom) f.0);
              shaped =
                  rw e
                  (shape_added a.predicates a.functions a.ss dir₁ still_shaped more (shape_of a.atom) sought.sound (get_or words start 0) slot sought.is_q f.1
                  (predicate_declared dir₁ (get_or words start 0) cells to sought) count n end cells a.counted (ap (λ (k : ℕ). k + cells) (sym total_same)) a.room stands_there vars_are variables_few);
              total =
                  rw (e, len)
                  (rw (new_end a.predicates a.functions a.ss dir₁ still_shaped more (shape_of a.atom) sought.sound (get_or words start 0) slot sought.is_q f.1
                  (predicate_declared dir₁ (get_or words start 0) cells to sought) count n end cells a.counted (ap (λ (k : ℕ). k + cells) (sym total_same)) a.room stands_there vars_are variables_few)
                  (rw a.counted (omega arith)));
              kept = λ x l.
                  before_kept a.predicates a.functions a.ss dir₁ still_shaped more (shape_of a.atom) sought.sound (get_or words start 0) slot sought.is_q f.1
                  (predicate_declared dir₁ (get_or words start 0) cells to sought) count n end cells a.counted (ap (λ (k : ℕ). k + cells) (sym total_same)) a.room stands_there vars_are variables_few x l
                  ∙ before_same x l;
            }
