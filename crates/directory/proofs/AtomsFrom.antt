-- An atom's words from a place on: its first word, its arguments, how many cells it has; atoms one after another.
use Prim.Native.Nat.{ℕ, suc, ◌+◌, ◌-◌, ◌≤◌, ◌<◌}
use native.Mathlib.Omega.{arith}
use mathlib.Core.Path.{◌≡◌, sym, ap, ◌∙◌}
use mathlib.Core.List.{List, ◌∷◌, ◌++◌}
use lib.ListN.{length, get_or, take, drop}
use Rattle.terms.specs.Term.{Term, Terms}
use Rattle.terms.specs.Cells.{enc, encs, atom_cells, Run}
use Rattle.terms.specs.Walk.{cells_of}
use Rattle.terms.proofs.Runs.{run_terms}
use Rattle.terms.proofs.Parts.{part_from}
use Rattle.directory.specs.Directory.{StandsAt}
use Rattle.directory.specs.From.{AtomFrom}
use Rattle.directory.proofs.Cuts.{cut_within, cut_part, word_within, word_at, word_behind}

module _ (words : List ℕ) (at : ℕ) (predicates functions : List ℕ) (a : AtomFrom words at predicates functions) where
  first_cut : drop at words ≡ a.sound.predicate ∷ encs a.sound.arguments ++ a.rest
  first_cut = a.cut ∙ ap (λ (t : Term). enc t ++ a.rest) a.sound.is

  pub atom_within : at < length words
  atom_within = word_within words at _ _ first_cut

  pub atom_predicate : get_or words at 0 ≡ a.sound.predicate
  atom_predicate = word_at words at _ _ first_cut

  pub atom_declared : get_or words at 0 < length predicates
  atom_declared = rw atom_predicate a.sound.declared

  -- behind the predicate stand its arguments
  abbrev arguments_run : Run functions (drop (at + 1) words) (get_or predicates (get_or words at 0) 0)
  arguments_run =
      record {
        terms = a.sound.arguments;
        rest = a.rest;
        cut = word_behind words at _ _ first_cut;
        keeps = a.sound.keeps;
        many = rw atom_predicate a.sound.arity;
      }

  pub atom_run : Run functions (take (length words - (at + 1)) (drop (at + 1) words)) (get_or predicates (get_or words at 0) 0)
  atom_run = rw (part_from words (at + 1)) arguments_run

  pub atom_length : 1 + cells_of functions (take (length words - (at + 1)) (drop (at + 1) words)) (get_or predicates (get_or words at 0) 0) ≡ length (enc a.atom)
  atom_length =
      rw (part_from words (at + 1))
      (ap (λ (ts : Terms). 1 + length (encs ts)) (run_terms functions (drop (at + 1) words) _ arguments_run)
      ∙ add_one_left ∙ sym (ap (λ (t : Term). length (enc t)) a.sound.is))
    where
      add_one_left : 1 + length (encs a.sound.arguments) ≡ suc (length (encs a.sound.arguments))
      add_one_left = omega arith

  pub atom_ends : at + length (enc a.atom) ≤ length words
  atom_ends = cut_within words at (enc a.atom) a.rest a.cut (let h = atom_within in omega arith)

  pub atom_short : length (enc a.atom) ≤ atom_cells
  atom_short = a.sound.short

  pub atom_stands : StandsAt words a.atom at (length (enc a.atom))
  atom_stands = record { run = cut_part words at (enc a.atom) a.rest a.cut; fits = atom_ends; short = atom_short }
