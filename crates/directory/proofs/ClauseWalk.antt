-- The walk over a clause: its head is written down, and then its body's atoms.
use Prim.Native.Nat.{ℕ, ◌+◌, ◌-◌, ◌≤◌, ◌<◌}
use native.Mathlib.Omega.{arith}
use mathlib.Core.Path.{◌≡◌, sym, ap, ◌∙◌}
use mathlib.Core.List.{List, [], ◌++◌}
use lib.ListN.{length, get_or, set, take, drop, length-set}
use lib.Seq.{drop-length, get_or-set_same, get_or-set_other}
use Rattle.terms.specs.Cells.{enc}
use Rattle.terms.specs.Walk.{Cells}
use Rattle.program.specs.Limits.{max_declared, max_body, max_bodies}
use Rattle.program.specs.Shapes.{met}
use Rattle.program.specs.Within.{encode_atoms}
use Rattle.program.proofs.Nths.{nth_below}
use Rattle.directory.specs.Layout.{clause_head, clause_cells, clause_first, clause_vars, body_start, body_cells, dir_words}
use Rattle.directory.specs.Numbers.{met_cells}
use Rattle.directory.specs.Walked.{AtomsWritten, ClauseWritten, HeadIn}
use Rattle.directory.specs.From.{AtomFrom, AtomsFrom, ClauseFrom}
use Rattle.directory.proofs.Cuts.{middle_part, cut_part, cut_behind, word_within, word_at, word_behind}
use Rattle.directory.proofs.AtomsFrom.{atom_stands, atom_ends}
use Rattle.directory.proofs.TermCells.{atom_met, atom_all_cells}
use Rattle.directory.proofs.ShapeVariables.{met_few, numbered_variables}

module _ (words : List ℕ) (from : ℕ) (predicates functions : List ℕ) (a : ClauseFrom words from predicates functions) where
  pub clause_within : from < length words
  clause_within = word_within words from _ _ a.cut

  pub body_length : get_or words from 0 ≡ length a.clause.body
  body_length = word_at words from _ _ a.cut

  -- behind the length stands the head
  abbrev pub head_from : AtomFrom words (from + 1) predicates functions
  head_from =
      record {
        atom = a.clause.head;
        rest = encode_atoms a.clause.body ++ a.rest;
        cut = word_behind words from _ _ a.cut;
        sound = a.within.head_atom;
      }

  pub head_ends : from + 1 + length (enc a.clause.head) ≤ length words
  head_ends = atom_ends words (from + 1) predicates functions head_from

  module _ (cells : ℕ) (e : cells ≡ length (enc a.clause.head)) where
    -- and behind that the body
    abbrev pub body_from : (m : ℕ) → m ≡ get_or words from 0 → AtomsFrom words (from + 1 + cells) predicates functions m
    body_from m q =
        record {
          atoms = a.clause.body;
          rest = a.rest;
          cut = rw e (cut_behind words (from + 1) (enc a.clause.head) head_from.rest head_from.cut);
          sound = a.within.body_atoms;
          many = sym (q ∙ body_length);
        }

    pub head_run : take (from + 1 + cells - (from + 1)) (drop (from + 1) words) ≡ enc a.clause.head
    head_run = middle_part words (from + 1) cells ∙ rw e (cut_part words (from + 1) (enc a.clause.head) head_from.rest head_from.cut)

    module _ (few : length predicates ≤ max_declared) where
      pub head_cells : Cells (take (from + 1 + cells - (from + 1)) (drop (from + 1) words))
      head_cells = rw head_run (atom_all_cells predicates functions few a.clause.head a.within.head_atom)

      pub head_met : met_cells [] (take (from + 1 + cells - (from + 1)) (drop (from + 1) words)) ≡ met [] a.clause.head
      head_met = rw head_run (atom_met predicates functions few a.clause.head a.within.head_atom)

module _ (words : List ℕ) (from : ℕ) (predicates functions : List ℕ) (a : ClauseFrom words from predicates functions)
    (before dir : List ℕ) (k cells vars m at : ℕ)
    (whole : length before ≡ dir_words) (declared : k < max_declared) (room : get_or before (clause_first + k) 0 + max_body ≤ max_bodies)
    (cells_are : cells ≡ length (enc a.clause.head)) (vars_are : vars ≡ length (met [] a.clause.head)) (many : m ≡ length a.clause.body) where
  abbrev j : ℕ
  j = get_or before (clause_first + k) 0

  -- the entries of the head
  abbrev pub headed : List ℕ
  headed = set (set (set (set before (clause_head + k) (from + 1)) (clause_cells + k) cells) (clause_vars + k) vars) (clause_first + (k + 1)) (j + m)

  pub headed_size : length headed ≡ dir_words
  headed_size = rw (length-set, length-set, length-set, length-set) whole

  others_kept : (x : ℕ) → (x ≡ clause_head + k → ⊥) → (x ≡ clause_cells + k → ⊥) → (x ≡ clause_vars + k → ⊥) → (x ≡ clause_first + (k + 1) → ⊥)
      → get_or headed x 0 ≡ get_or before x 0
  others_kept x n₁ n₂ n₃ n₄ =
      get_or-set_other (set (set (set before (clause_head + k) (from + 1)) (clause_cells + k) cells) (clause_vars + k) vars) (clause_first + (k + 1)) x (j + m) 0 n₄
      ∙ get_or-set_other (set (set before (clause_head + k) (from + 1)) (clause_cells + k) cells) (clause_vars + k) x vars 0 n₃
      ∙ get_or-set_other (set before (clause_head + k) (from + 1)) (clause_cells + k) x cells 0 n₂
      ∙ get_or-set_other before (clause_head + k) x (from + 1) 0 n₁

  headed_first : get_or headed (clause_first + (k + 1)) 0 ≡ j + m
  headed_first =
      get_or-set_same (set (set (set before (clause_head + k) (from + 1)) (clause_cells + k) cells) (clause_vars + k) vars) (clause_first + (k + 1)) (j + m) 0
      (rw (length-set, length-set, length-set) (omega arith))

  headed_vars : get_or headed (clause_vars + k) 0 ≡ vars
  headed_vars =
      get_or-set_other (set (set (set before (clause_head + k) (from + 1)) (clause_cells + k) cells) (clause_vars + k) vars) (clause_first + (k + 1)) (clause_vars + k) (j + m) 0 (λ q. omega arith)
      ∙ get_or-set_same (set (set before (clause_head + k) (from + 1)) (clause_cells + k) cells) (clause_vars + k) vars 0 (rw (length-set, length-set) (omega arith))

  headed_cells : get_or headed (clause_cells + k) 0 ≡ cells
  headed_cells =
      get_or-set_other (set (set (set before (clause_head + k) (from + 1)) (clause_cells + k) cells) (clause_vars + k) vars) (clause_first + (k + 1)) (clause_cells + k) (j + m) 0 (λ q. omega arith)
      ∙ get_or-set_other (set (set before (clause_head + k) (from + 1)) (clause_cells + k) cells) (clause_vars + k) (clause_cells + k) vars 0 (λ q. omega arith)
      ∙ get_or-set_same (set before (clause_head + k) (from + 1)) (clause_cells + k) cells 0 (rw length-set (omega arith))

  headed_start : get_or headed (clause_head + k) 0 ≡ from + 1
  headed_start =
      get_or-set_other (set (set (set before (clause_head + k) (from + 1)) (clause_cells + k) cells) (clause_vars + k) vars) (clause_first + (k + 1)) (clause_head + k) (j + m) 0 (λ q. omega arith)
      ∙ get_or-set_other (set (set before (clause_head + k) (from + 1)) (clause_cells + k) cells) (clause_vars + k) (clause_head + k) vars 0 (λ q. omega arith)
      ∙ get_or-set_other (set before (clause_head + k) (from + 1)) (clause_cells + k) (clause_head + k) cells 0 (λ q. omega arith)
      ∙ get_or-set_same before (clause_head + k) (from + 1) 0 (omega arith)

  module _ (w : AtomsWritten words a.clause.body a.rest headed dir j m at) where
    head_in : HeadIn words dir a.clause k
    head_in =
        record {
          stands =
              rw (w.kept (clause_head + k) (omega arith), w.kept (clause_cells + k) (omega arith), headed_start, headed_cells, cells_are)
              (atom_stands words (from + 1) predicates functions (head_from words from predicates functions a));
          head_variables = λ v.
              rw (w.kept (clause_vars + k) (omega arith), headed_vars, vars_are) (numbered_variables a.clause.head a.within.numbered.0 v);
          few = rw (w.kept (clause_vars + k) (omega arith), headed_vars, vars_are) (met_few predicates functions a.clause.head a.within.head_atom);
        }

    pub clause_written : ClauseWritten words a.clause a.rest before dir k at
    clause_written =
        record {
          size = w.size ∙ headed_size ∙ sym whole;
          to_come = w.to_come ∙ none_left;
          within = w.within;
          head = head_in;
          first_next = w.kept (clause_first + (k + 1)) (omega arith) ∙ headed_first ∙ ap (λ (n : ℕ). j + n) many;
          written = λ q. w.written q (let l = nth_below q in omega arith);
          heads_kept = λ x l. w.kept (clause_head + x) (omega arith) ∙ others_kept (clause_head + x) (λ q. omega arith) (λ q. omega arith) (λ q. omega arith) (λ q. omega arith);
          cells_kept = λ x l. w.kept (clause_cells + x) (omega arith) ∙ others_kept (clause_cells + x) (λ q. omega arith) (λ q. omega arith) (λ q. omega arith) (λ q. omega arith);
          variables_kept = λ x l. w.kept (clause_vars + x) (omega arith) ∙ others_kept (clause_vars + x) (λ q. omega arith) (λ q. omega arith) (λ q. omega arith) (λ q. omega arith);
          firsts_kept = λ x l. w.kept (clause_first + x) (omega arith) ∙ others_kept (clause_first + x) (λ q. omega arith) (λ q. omega arith) (λ q. omega arith) (λ q. omega arith);
          starts_kept = λ x l. w.kept (body_start + x) (omega arith) ∙ others_kept (body_start + x) (λ q. omega arith) (λ q. omega arith) (λ q. omega arith) (λ q. omega arith);
          body_cells_kept = λ x l. w.cells_kept x l ∙ others_kept (body_cells + x) (λ q. omega arith) (λ q. omega arith) (λ q. omega arith) (λ q. omega arith);
          kept = λ x l. w.kept x (omega arith) ∙ others_kept x (λ q. omega arith) (λ q. omega arith) (λ q. omega arith) (λ q. omega arith);
        }
      where
        none_left : encode_atoms (drop m a.clause.body) ++ a.rest ≡ a.rest
        none_left = rw (many, drop-length)
