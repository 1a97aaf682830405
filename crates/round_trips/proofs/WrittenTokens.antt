-- Each token that the writer writes for an atom is printed as a token, one token a cell.
use Prim.Native.Nat.{ℕ, suc, ◌+◌, ◌-◌, ◌≤◌, ◌<◌}
use native.Mathlib.Omega.{arith}
use mathlib.Core.Path.{◌≡◌, refl, sym, ap, ◌∙◌}
use mathlib.Core.Bool.{Bool, true, false, cond}
use mathlib.Core.List.{List, [], ◌∷◌, map, map-append}
use lib.ListN.{length, get_or, length-append, length-map}
use lib.Dec.{eqb}
use borrow.Author.Tests.{lt-ltb, le-ltb}
use Rattle.terms.specs.Term.{Term, Terms, var, app, nil, cons}
use Rattle.terms.specs.Cells.{first_variable, enc, encs, Keeps, Keepss, Atom}
use Rattle.program.specs.Limits.{ground_mode}
use Rattle.program.specs.Within.{Each, none, more, encode_atoms}
use Rattle.text.specs.Line.{line_feed}
use Rattle.text.specs.Token.{upper_v, upper_g}
use Rattle.written_lines.specs.Tokens.{symbol_token, variable_token, argument_token, atom_tokens, atoms_tokens}
use Rattle.round_trips.proofs.Printed.{Printed, each_append, name_printed}
use Rattle.round_trips.proofs.PrintedNumbers.{number_printed}
use Rattle.round_trips.proofs.ReadNames.{SoundNames}
use Rattle.round_trips.proofs.WrittenNames.{sound_name}

variable_printed : (ms : List ℕ) (v : ℕ) → v < 16 → Printed (variable_token ms v)
variable_printed ms v h =
    let d = number_printed v h in
    record { bytes = more (sign (eqb (get_or ms v 0) ground_mode)) d.bytes; short = omega (arith, d.short) }
  where
    sign : (t : Bool) → line_feed < cond t upper_g upper_v
    sign true = omega arith
    sign false = omega arith

module _ (names ps fs : List ℕ) (sound : SoundNames names (length ps) (length fs)) where
  pub symbol_printed : (i : ℕ) → i < length ps + length fs → Printed (symbol_token names i)
  symbol_printed i h = name_printed (symbol_token names i) (sound_name sound i h).name

  module _ (ms : List ℕ) where
    abbrev token : ℕ → List ℕ
    token = argument_token names (length ps) ms

    mutual
      term_printed : (t : Term) → Keeps fs t → Each Printed (map token (enc t))
      term_printed (var v) keeps =
          let high : first_variable ≤ first_variable + v = omega arith in
          let same : first_variable + v - first_variable ≡ v = omega arith in
          more {a = token (first_variable + v)} (rw (le-ltb (first_variable + v) first_variable high, same) (variable_printed ms v keeps)) none
      term_printed (app f ts) keeps =
          more {a = token f} (rw (lt-ltb f first_variable keeps.1) (symbol_printed (length ps + f) (let low : f < length fs = keeps.0 in omega arith)))
          (terms_printed ts keeps.3)

      terms_printed : (ts : Terms) → Keepss fs ts → Each Printed (map token (encs ts))
      terms_printed nil keeps = none
      terms_printed (cons t ts) keeps =
          rw (map-append token (enc t) (encs ts))
          (each_append (map token (enc t)) (map token (encs ts)) (term_printed t keeps.0) (terms_printed ts keeps.1))

    pub atom_printed : (t : Term) → Atom ps fs t → Each Printed (atom_tokens names (length ps) ms (enc t))
    atom_printed t a =
        rw a.is
        (more (symbol_printed a.predicate (let low : a.predicate < length ps = a.declared in omega arith)) (terms_printed a.arguments a.keeps))

    -- one token a cell
    pub atom_tokens_law : (ws : List ℕ) → length (atom_tokens names (length ps) ms ws) ≡ length ws
    atom_tokens_law [] = refl
    atom_tokens_law (w ∷ ws) = ap suc (length-map ws token)

  pub atoms_printed : (ts : List Term) → Each (Atom ps fs) ts → Each Printed (atoms_tokens names (length ps) ts)
  atoms_printed [] none = none
  atoms_printed (t ∷ ts) (more a each) =
      each_append (atom_tokens names (length ps) [] (enc t)) (atoms_tokens names (length ps) ts) (atom_printed [] t a) (atoms_printed ts each)

  pub atoms_tokens_law : (ts : List Term) → length (atoms_tokens names (length ps) ts) ≡ length (encode_atoms ts)
  atoms_tokens_law [] = refl
  atoms_tokens_law (t ∷ ts) =
      length-append (atom_tokens names (length ps) [] (enc t)) (atoms_tokens names (length ps) ts)
      ∙ rw (atom_tokens_law [] (enc t), atoms_tokens_law ts) (sym (length-append (enc t) (encode_atoms ts)))
