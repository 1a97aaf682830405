-- An atom, and the goal, at a place of the words: their cells, their texts, and the place behind them.
use Prim.Native.Nat.{ℕ, ◌+◌, ◌-◌, ◌≤◌, ◌<◌}
use mathlib.Core.Path.{◌≡◌, refl, sym, ap, ◌∙◌}
use mathlib.Core.List.{List, ◌∷◌, ◌++◌, map}
use native.Mathlib.Omega.{arith}
use lib.ListN.{length, get_or, take, drop, length-drop}
use lib.Seq.{drop-drop}
use Rattle.terms.specs.Term.{Term}
use Rattle.terms.specs.Cells.{enc, encs, Run}
use Rattle.terms.proofs.Parts.{part_from}
use Rattle.program.specs.Within.{after, modes_of}
use Rattle.text.specs.Line.{tab}
use Rattle.directory.specs.From.{AtomFrom, GoalFrom}
use Rattle.directory.proofs.Cuts.{word_behind}
use Rattle.directory.proofs.AtomsFrom.{atom_within, atom_predicate}
use Rattle.directory.proofs.GoalWalk.{count_within, modes_within, modes_are}
use Rattle.written_lines.specs.Tokens.{symbol_token, argument_token, atom_tokens, behind_tabs}

module _ (words : List ℕ) (at : ℕ) (predicates functions : List ℕ) (a : AtomFrom words at predicates functions) where
  -- the words behind the predicate's
  abbrev tail : List ℕ
  tail = take (length words - (at + 1)) (drop (at + 1) words)

  -- behind the predicate stand its arguments
  abbrev pub arguments_run : (n : ℕ) → n ≡ get_or predicates (get_or words at 0) 0 → Run functions tail n
  arguments_run n e =
      record {
        terms = a.sound.arguments;
        rest = a.rest;
        cut = part_from words (at + 1) ∙ word_behind words at a.sound.predicate (encs a.sound.arguments ++ a.rest) (a.cut ∙ ap (λ (t : Term). enc t ++ a.rest) a.sound.is);
        keeps = a.sound.keeps;
        many = a.sound.arity ∙ sym (e ∙ ap (λ (q : ℕ). get_or predicates q 0) (atom_predicate words at predicates functions a));
      }

  -- the predicate's token, and then those of its arguments
  pub atom_text : (names modes : List ℕ) (n q : ℕ) → q ≡ get_or words at 0
      → tab ∷ symbol_token names q ++ behind_tabs (map (argument_token names n modes) (encs a.sound.arguments)) ≡ behind_tabs (atom_tokens names n modes (enc a.atom))
  atom_text names modes n q e =
      ap (λ (p : ℕ). tab ∷ symbol_token names p ++ behind_tabs (map (argument_token names n modes) (encs a.sound.arguments))) (e ∙ atom_predicate words at predicates functions a)
      ∙ sym (ap (λ (t : Term). behind_tabs (atom_tokens names n modes (enc t))) a.sound.is)

  -- the place behind so many cells of the tail
  pub tail_within : (k : ℕ) → k ≤ length tail → at + 1 + k ≤ length words
  tail_within k h = omega (arith, atom_within words at predicates functions a, ap length (part_from words (at + 1)), length-drop (at + 1) words)

  pub tail_behind : (k : ℕ) → drop k tail ≡ a.rest → drop (at + 1 + k) words ≡ a.rest
  tail_behind k e = sym (drop-drop k (at + 1) words) ∙ ap (drop k) (sym (part_from words (at + 1))) ∙ e

module _ (words : List ℕ) (at : ℕ) (predicates functions : List ℕ) (a : GoalFrom words at predicates functions) (end : ℕ) (e : end ≡ at + length (enc a.goal)) where
  -- behind the atom stands the variable count
  pub query_count : end < length words
  query_count = rw e (count_within words at predicates functions a (length (enc a.goal)) refl)

  -- and behind that the modes
  pub query_within : end + 1 + get_or words end 0 ≤ length words
  query_within = rw e (modes_within words at predicates functions a (length (enc a.goal)) refl)

  pub query_modes : (count : ℕ) → count ≡ get_or words end 0 → take (end + 1 + count - (end + 1)) (drop (end + 1) words) ≡ modes_of (after 0 a.goal) a.grounded
  query_modes count q = rw e (modes_are words at predicates functions a (length (enc a.goal)) refl count (rw e at q))
