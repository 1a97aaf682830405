-- The walk over the goal and the body atoms: each gets its shape's number.
use Prim.Native.Nat.{ℕ, ◌+◌, ◌≤◌, ◌<◌}
use native.Mathlib.Omega.{arith}
use native.Mathlib.Decide.{ℕ_discrete}
use mathlib.Core.Path.{◌≡◌, refl, sym, ap, ◌∙◌}
use mathlib.Core.List.{List, [], ◌∷◌, ◌++◌}
use lib.ListN.{length, get_or, set, take, length-set, length-append}
use lib.Seq.{get_or-set_same, get_or-set_other}
use Rattle.terms.specs.Term.{Term, same_term}
use Rattle.terms.specs.Cells.{enc}
use Rattle.program.specs.Limits.{max_declared}
use Rattle.program.specs.Program.{Nth, Program, bodies}
use Rattle.program.specs.Within.{after, modes_of, encode_atoms, encode_clauses}
use Rattle.program.specs.Shapes.{with, shape_of, shape_number}
use Rattle.program.proofs.ShapeLaws.{nth_same}
use Rattle.program.proofs.Nths.{below_nth, nth_below}
use Rattle.directory.specs.Layout.{goal_start, goal_cells, body_start, body_cells, body_shape, shape_count, shape_start, predicate_shape, dir_words, max_shape_cells}
use Rattle.directory.specs.Directory.{StandsAt}
use Rattle.directory.specs.Said.{said, Accepted}
use Rattle.directory.specs.Walked.{Placed}
use Rattle.shaping.specs.Shaped.{Shaped, Asked, Answered}
use Rattle.shaping.specs.Named.{Cleared, shapes_up_to, ShapesFound, ShapesNamed}
use Rattle.directory.proofs.Parts.{part_length}
use Rattle.directory.proofs.AcceptedWords.{said_within, said_words, goal_part, words_short}
use Rattle.directory.proofs.PlacedLaws.{bodies_at_most, body_atom, placed_kept}
use Rattle.shaping.proofs.Links.{link_empty}
use Rattle.shaping.proofs.ShapeKept.{shaped_set}
use Rattle.shaping.proofs.ShapeNames.{place_most, length_with_new, length_with_old, length_with_most, shapes_next, shapes_all, number_stays, atoms_next, atoms_some, bodies_words}

-- the cells of the goal and of the body atoms are among the words
pub cells_among : (words : List ℕ) → Accepted words
    → length (enc (said words).goal) + length (encode_atoms (bodies (said words).clauses)) ≤ max_shape_cells
cells_among words a =
    let p = said words in
    let e = ap length (said_words words a) in
    let b = bodies_words p.clauses in
    let s = words_short words a in
    let modes : List ℕ = after 0 p.goal ∷ modes_of (after 0 p.goal) p.grounded in
    omega (
      arith,
      length-append p.predicates (p.functions ++ (encode_clauses p.clauses ++ goal_part p)),
      length-append p.functions (encode_clauses p.clauses ++ goal_part p),
      length-append (encode_clauses p.clauses) (goal_part p),
      length-append (enc p.goal) modes,
    )

pub stands_length : (words : List ℕ) (t : Term) (start cells : ℕ) → StandsAt words t start cells → length (enc t) ≡ cells
stands_length words t start cells s = sym (ap length s.run) ∙ part_length words start cells s.fits

module _ (words : List ℕ) (a : Accepted words) where
  abbrev p : Program
  p = said words

  module _ (before dir : List ℕ) (w : Placed words p before) (c : Cleared before dir max_declared) where
    abbrev cleared : List ℕ
    cleared = set dir shape_start 0

    -- there are no shapes yet
    pub no_shapes : Shaped p.predicates p.functions [] cleared
    no_shapes =
        let z : length dir ≡ dir_words = c.size ∙ w.size in
        let e : get_or cleared shape_start 0 ≡ 0 = get_or-set_same dir shape_start 0 0 (omega arith) in
        record {
          size = length-set dir shape_start 0 ∙ z;
          declared = (said_within words a).predicates_most;
          many = omega arith;
          start_zero = e;
          total = rw e (omega arith);
          shape = λ h. let l = nth_below h in absurd (omega arith);
          atom = λ h. let l = nth_below h in absurd (omega arith);
          first = λ q l. rw (get_or-set_other dir shape_start (predicate_shape + q) 0 0 (λ y. omega arith), c.none q l) (link_empty q 0);
        }

    pub goal_at : get_or cleared goal_start 0 ≡ get_or before goal_start 0
    goal_at = get_or-set_other dir shape_start goal_start 0 0 (λ y. omega arith) ∙ c.kept goal_start (omega arith)

    pub goal_size : get_or cleared goal_cells 0 ≡ get_or before goal_cells 0
    goal_size = get_or-set_other dir shape_start goal_cells 0 0 (λ y. omega arith) ∙ c.kept goal_cells (omega arith)

    abbrev pub goal_asked : Asked words cleared (get_or before goal_start 0) (get_or before goal_cells 0) 0
    goal_asked =
        record {
          predicates = p.predicates;
          functions = p.functions;
          ss = [];
          shaped = no_shapes;
          counted = refl;
          more = omega arith;
          atom = p.goal;
          sound = (said_within words a).goal_atom;
          stands = w.goal_stands;
          room =
              let z : length dir ≡ dir_words = c.size ∙ w.size in
              let e : get_or cleared shape_start 0 ≡ 0 = get_or-set_same dir shape_start 0 0 (omega arith) in
              let g = w.goal_stands.short in
              rw e (omega arith);
        }

    pub goal_found : (dir' : List ℕ) (r : ℕ) → Answered p.predicates p.functions [] p.goal (get_or before goal_cells 0) cleared dir' r → ShapesFound p before dir' 0 1
    goal_found dir' r x =
        let z : length dir ≡ dir_words = c.size ∙ w.size in
        let e : get_or cleared (shape_start + 0) 0 ≡ 0 = get_or-set_same dir shape_start 0 0 (omega arith) in
        let l = stands_length words p.goal (get_or before goal_start 0) (get_or before goal_cells 0) w.goal_stands in
        let t = x.total in
        record {
          counted = refl;
          few = omega arith;
          shaped = x.shaped;
          total = omega arith;
          numbers = λ h n. absurd (omega arith);
          kept = λ y n. x.kept y (omega arith) ∙ get_or-set_other dir shape_start y 0 0 (λ q. omega arith) ∙ c.kept y (omega arith);
        }

  module _ (before dir : List ℕ) (placed : Placed words p before) (j count : ℕ) (w : ShapesFound p before dir j count) where
    pub found_placed : Placed words p dir
    found_placed = placed_kept words a before dir (w.shaped.size ∙ sym placed.size) (λ x l. w.kept x (omega arith)) placed

    module _ (less : j < length (bodies p.clauses)) where
      abbrev next_of : (A : Term) × Nth (bodies p.clauses) j A
      next_of = below_nth (bodies p.clauses) j less

      abbrev A : Term
      A = next_of.0

      abbrev start : ℕ
      start = get_or dir (body_start + j) 0

      abbrev cells : ℕ
      cells = get_or dir (body_cells + j) 0

      pub body_stands : StandsAt words A start cells
      body_stands = found_placed.written next_of.1

      pub cells_more : length (enc p.goal) + length (encode_atoms (take (j + 1) (bodies p.clauses))) ≤ max_shape_cells
      cells_more = let h = cells_among words a in let s = atoms_some (bodies p.clauses) (j + 1) in omega arith

      -- the next body atom's number is asked for
      abbrev pub body_asked : Asked words dir start cells count
      body_asked =
          record {
            predicates = p.predicates;
            functions = p.functions;
            ss = shapes_up_to p j;
            shaped = w.shaped;
            counted = w.counted;
            more = let f = w.few in let b = bodies_at_most words a in omega arith;
            atom = A;
            sound = body_atom words a next_of.1;
            stands = body_stands;
            room =
                let t = w.total in
                let l = stands_length words A start cells body_stands in
                let n = atoms_next next_of.1 in
                let m = cells_more in
                rw w.counted (omega arith);
          }

      module _ (dir' : List ℕ) (r : ℕ) (x : Answered p.predicates p.functions (shapes_up_to p j) A cells dir dir' r) where
        pub answer_few : r ≤ count
        answer_few = rw (x.number, w.counted) (place_most (shapes_up_to p j) (shape_of A))

        -- a number behind the others is that of a new shape
        pub counted_new : r ≡ count → count + 1 ≡ length (with same_term (shapes_up_to p j) (shape_of A))
        counted_new e =
            ap (λ (n : ℕ). n + 1) w.counted ∙ sym (length_with_new (shapes_up_to p j) (shape_of A) (sym x.number ∙ e ∙ w.counted))

        pub counted_old : (r ≡ count → ⊥) → count ≡ length (with same_term (shapes_up_to p j) (shape_of A))
        counted_old ne = w.counted ∙ sym (length_with_old (shapes_up_to p j) (shape_of A) (λ e. ne (x.number ∙ e ∙ sym w.counted)))

        abbrev done : List ℕ
        done = set dir' (body_shape + j) r

        number_by : {y : ℕ} {B : Term} → Nth (bodies p.clauses) y B → y < j + 1 → Dec (y ≡ j) → get_or done (body_shape + y) 0 ≡ shape_number p B
        number_by {y} {B} h l (yes same) =
            let at_j : Nth (bodies p.clauses) j B = rw same at h in
            let e : A ≡ B = nth_same next_of.1 at_j in
            let z = x.shaped.size in
            let m = bodies_at_most words a in
            rw (same, ← e) (get_or-set_same dir' (body_shape + j) r 0 (omega arith) ∙ x.number ∙ number_stays p next_of.1)
        number_by {y} {B} h l (no other) =
            let n = nth_below h in
            let m = bodies_at_most words a in
            get_or-set_other dir' (body_shape + j) (body_shape + y) r 0 (λ q. omega arith) ∙ x.kept (body_shape + y) (omega arith) ∙ w.numbers h (omega arith)

        pub body_found : (count' : ℕ) → count' ≡ length (with same_term (shapes_up_to p j) (shape_of A)) → ShapesFound p before done (j + 1) count'
        body_found count' e =
            let n = shapes_next p next_of.1 in
            let m = bodies_at_most words a in
            let lm = length_with_most (shapes_up_to p j) (shape_of A) in
            let f = w.few in
            let k = w.counted in
            let t = x.total in
            let t' = w.total in
            let l = stands_length words A start cells body_stands in
            let an = atoms_next next_of.1 in
            record {
              counted = rw n e;
              few = omega arith;
              shaped = rw n (shaped_set p.predicates p.functions _ dir' x.shaped (body_shape + j) r (omega arith));
              total =
                  rw (n, get_or-set_other dir' (body_shape + j) (shape_start + length (with same_term (shapes_up_to p j) (shape_of A))) r 0 (λ q. omega arith)) (omega arith);
              numbers = λ {x = y} h less'. number_by h less' (ℕ_discrete y j);
              kept = λ y l'. get_or-set_other dir' (body_shape + j) y r 0 (λ q. omega arith) ∙ x.kept y (omega arith) ∙ w.kept y l';
            }

    -- all are found, and counted
    pub all_named : j ≡ length (bodies p.clauses) → ShapesNamed p before (set dir shape_count count)
    all_named e =
        let n = shapes_all p j e in
        let z = w.shaped.size in
        let m = bodies_at_most words a in
        record {
          shaped = rw n at (shaped_set p.predicates p.functions _ dir w.shaped shape_count count (omega arith));
          counted = get_or-set_same dir shape_count count 0 (omega arith) ∙ w.counted ∙ ap length n;
          numbers = λ {x = y} h.
              let l = nth_below h in
              get_or-set_other dir shape_count (body_shape + y) count 0 (λ q. omega arith) ∙ w.numbers h (omega arith);
          kept = λ y l. get_or-set_other dir shape_count y count 0 (λ q. omega arith) ∙ w.kept y l;
        }

-- what comes after the goal's shape goes on from there
pub found_own : (p : Program) (before dir : List ℕ) (j count : ℕ) → ShapesFound p before dir j count → ShapesFound p dir dir j count
found_own p before dir j count w =
    record { counted = w.counted; few = w.few; shaped = w.shaped; total = w.total; numbers = w.numbers; kept = λ x l. refl }

pub named_after : (p : Program) (before dir dir' : List ℕ) (j count : ℕ) → ShapesFound p before dir j count → ShapesNamed p dir dir' → ShapesNamed p before dir'
named_after p before dir dir' j count f w =
    record { shaped = w.shaped; counted = w.counted; numbers = w.numbers; kept = λ x l. w.kept x l ∙ f.kept x l }
