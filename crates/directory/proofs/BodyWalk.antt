-- The walk over the atoms of a body: one atom after another is written down.
use Prim.Native.Nat.{ℕ, suc, ◌+◌, ◌≤◌, ◌<◌}
use native.Mathlib.Numerals.{add-one}
use native.Mathlib.Omega.{arith}
use native.Mathlib.Decide.{ℕ_discrete}
use mathlib.Core.Path.{◌≡◌, refl, ap, ◌∙◌}
use mathlib.Core.List.{List, ◌++◌, append_assoc}
use lib.ListN.{length, get_or, set, drop, length-set}
use lib.Seq.{get_or-set_same, get_or-set_other}
use Rattle.terms.specs.Term.{Term}
use Rattle.terms.specs.Cells.{enc}
use Rattle.program.specs.Program.{Nth}
use Rattle.program.specs.Within.{encode_atoms}
use Rattle.program.specs.Limits.{max_bodies}
use Rattle.program.proofs.ShapeLaws.{nth_same}
use Rattle.program.proofs.Nths.{below_nth}
use Rattle.directory.specs.Layout.{body_start, body_cells, dir_words}
use Rattle.directory.specs.Walked.{AtomsWritten, BodyIn}
use Rattle.directory.specs.From.{AtomFrom, AtomsFrom}
use Rattle.directory.proofs.Cuts.{cut_behind, nth_drop, each_nth}
use Rattle.directory.proofs.AtomsFrom.{atom_stands, atom_ends}

module _ (words : List ℕ) (from : ℕ) (predicates functions : List ℕ) (m : ℕ) (a : AtomsFrom words from predicates functions m) (before : List ℕ) (j : ℕ) where
  -- nothing is written yet
  pub none_written : from ≤ length words → AtomsWritten words a.atoms a.rest before before j 0 from
  none_written h =
      record { size = refl; to_come = a.cut; within = h; written = λ q l. absurd (omega arith); kept = λ x l. refl; cells_kept = λ x l. refl }

  module _ (dir : List ℕ) (i at : ℕ) (w : AtomsWritten words a.atoms a.rest before dir j i at) (less : i < m) where
    -- the atom that comes next
    abbrev next_of : (A : Term) × Nth a.atoms i A
    next_of = below_nth a.atoms i (let e = a.many in omega arith)

    abbrev pub next_atom : AtomFrom words at predicates functions
    next_atom =
        record {
          atom = next_of.0;
          rest = encode_atoms (drop (suc i) a.atoms) ++ a.rest;
          cut = w.to_come ∙ ap (λ (ts : List Term). encode_atoms ts ++ a.rest) (nth_drop next_of.1) ∙ append_assoc (enc next_of.0) _ _;
          sound = each_nth a.sound next_of.1;
        }

    abbrev after : ℕ → List ℕ
    after cells = set (set dir (body_start + (j + i)) at) (body_cells + (j + i)) cells

    module _ (cells : ℕ) (e : cells ≡ length (enc next_atom.atom)) (few : j + m ≤ max_bodies) (whole : length before ≡ dir_words) where
      untouched : (x : ℕ) → (x ≡ body_start + (j + i) → ⊥) → (x ≡ body_cells + (j + i) → ⊥) → get_or (after cells) x 0 ≡ get_or dir x 0
      untouched x n n' = get_or-set_other (set dir (body_start + (j + i)) at) (body_cells + (j + i)) x cells 0 n' ∙ get_or-set_other dir (body_start + (j + i)) x at 0 n

      start_is : get_or (after cells) (body_start + (j + i)) 0 ≡ at
      start_is =
          get_or-set_other (set dir (body_start + (j + i)) at) (body_cells + (j + i)) (body_start + (j + i)) cells 0 (λ q. omega arith)
          ∙ get_or-set_same dir (body_start + (j + i)) at 0 (let s = w.size in omega arith)

      cells_are : get_or (after cells) (body_cells + (j + i)) 0 ≡ length (enc next_atom.atom)
      cells_are = get_or-set_same (set dir (body_start + (j + i)) at) (body_cells + (j + i)) cells 0 (let s = w.size in rw (length-set dir (body_start + (j + i)) at) (omega arith)) ∙ e

      written_now : BodyIn words (after cells) next_atom.atom (j + i)
      written_now = rw (start_is, cells_are) (atom_stands words at predicates functions next_atom)

      written_by : {x : ℕ} {A : Term} → Nth a.atoms x A → x < i + 1 → Dec (x ≡ i) → BodyIn words (after cells) A (j + x)
      written_by {x} {A} q l (yes same) =
          let here : Nth a.atoms i A = rw same at q in
          let t : next_atom.atom ≡ A = nth_same next_of.1 here in
          rw (same, ← t) written_now
      written_by {x} {A} q l (no other) =
          rw (untouched (body_start + (j + x)) (λ q'. omega arith) (λ q'. omega arith), untouched (body_cells + (j + x)) (λ q'. omega arith) (λ q'. omega arith))
          (w.written q (omega arith))

      pub one_written : AtomsWritten words a.atoms a.rest before (after cells) j (i + 1) (at + cells)
      one_written =
          record {
            size = rw (length-set, length-set) w.size;
            to_come = rw (e, add-one i) (cut_behind words at (enc next_atom.atom) next_atom.rest next_atom.cut);
            within = rw e (atom_ends words at predicates functions next_atom);
            written = λ {x} q l. written_by q l (ℕ_discrete x i);
            kept = λ x l. untouched x (λ q. omega arith) (λ q. omega arith) ∙ w.kept x l;
            cells_kept = λ x l. untouched (body_cells + x) (λ q. omega arith) (λ q. omega arith) ∙ w.cells_kept x l;
          }
