-- The tokens that the writer writes for an atom are taken back to its cells and its variables.
use Prim.Native.Nat.{ℕ, suc, ◌+◌, ◌-◌, ◌≤◌, ◌<◌}
use native.Mathlib.Omega.{arith}
use native.Mathlib.Nat.{zero-add, add-zero}
use native.Mathlib.Numerals.{add-one}
use mathlib.Core.Path.{◌≡◌, refl, ap}
use mathlib.Core.Bool.{Bool, true, false, cond, ◌&&◌}
use mathlib.Core.List.{List, [], ◌∷◌, ◌++◌, map, map-append, append-nil, append_assoc}
use lib.ListN.{length, get_or, length-append}
use lib.Dec.{ltb}
use borrow.Author.Tests.{lt-ltb, le-ltb, ltb-false, ne_eqb}
use Rattle.terms.specs.Term.{Term, Terms, var, app, nil, cons, count}
use Rattle.terms.specs.Cells.{first_variable, atom_cells, enc, encs, Keeps, Keepss, Atom, pick}
use Rattle.program.specs.Limits.{max_body}
use Rattle.program.specs.Atoms.{meet}
use Rattle.program.specs.Within.{after, afters, Numbered, Numbereds}
use Rattle.cells.specs.Symbols.{Symbols}
use Rattle.cells.specs.TextSoFar.{right}
use Rattle.cells.specs.Cells.{Row, mode_of, look_of, taken_at, with_symbol, with_variable, complete, cells_of, Look, symbol, met}
use Rattle.written_lines.specs.Tokens.{symbol_token, variable_token, argument_token, atom_tokens}
use Rattle.round_trips.proofs.ReadNames.{SoundNames}
use Rattle.round_trips.proofs.WrittenCells.{Mode, modes_up_to, declared_symbols, row_at, variable_read, start_symbol, argument_symbol, argument_variable}

-- the tokens take one row to the other, wherever they stand
abbrev pub TakesTo : Symbols → Bool → Row → List (List ℕ) → Row → Type 0
TakesTo t query r ss r' = (at : ℕ) → cells_of t query r at ss ≡ right r'

-- one token
take_token : (t : Symbols) (query : Bool) (r : Row) (s : List ℕ) (ss : List (List ℕ)) (l : Look) (row r' : Row) → query && complete r ≡ false
    → look_of t query r s ≡ l → ((at : ℕ) → taken_at r at l ≡ right row) → TakesTo t query row ss r' → TakesTo t query r (s ∷ ss) r'
take_token t query r s ss l row r' o e h k at = rw (o, e, h (at + 1)) (k (at + 1 + length s))

-- an atom that wants more terms is not complete
open_row : (query : Bool) (ms : List ℕ) (atoms m cells seen : ℕ) (out : List ℕ) → query && complete (row_at ms atoms (suc m) cells seen out) ≡ false
open_row query ms atoms m cells seen out = rw (ne_eqb (suc m) 0 (λ (e : suc m ≡ 0). omega arith)) (never query)
  where
    never : (t : Bool) → t && false ≡ false
    never true = refl
    never false = refl

-- the cell of a variable behind a row
variable_row : (ms : List ℕ) (atoms m cells seen v : ℕ) (out : List ℕ) (grounded : Bool) → v ≤ seen → mode_of grounded ≡ get_or ms v 0
    → with_variable (row_at ms atoms (suc m) cells seen out) v grounded ≡ row_at ms atoms m (cells + 1) (meet seen v) (out ++ (first_variable + v) ∷ [])
variable_row ms atoms m cells seen v out grounded h mode = let fewer : suc m - 1 ≡ m = omega arith in rw fewer (go (ltb v seen) refl)
  where
    go : (t : Bool) → ltb v seen ≡ t
        → ◌≡◌ {A = Row}
        (record {
          wanted = m;
          cells = cells + 1;
          atoms = atoms;
          variables = cond t seen (seen + 1);
          modes = cond t (modes_up_to ms seen) (modes_up_to ms seen ++ mode_of grounded ∷ []);
          out = out ++ (first_variable + v) ∷ [];
        })
        (row_at ms atoms m (cells + 1) (pick t seen (suc v)) (out ++ (first_variable + v) ∷ []))
    go true e = refl
    go false e =
        let low = ltb-false v seen e in
        let last : v ≡ seen = omega arith in
        rw (mode, last, add-one seen)

-- the cell of a function
function_row : (ms : List ℕ) (atoms m cells seen f arity : ℕ) (out : List ℕ)
    → with_symbol (row_at ms atoms (suc m) cells seen out) f arity ≡ row_at ms atoms (arity + m) (cells + 1) seen (out ++ f ∷ [])
function_row ms atoms m cells seen f arity out =
    let left : suc m - 1 + arity ≡ arity + m = omega arith in
    rw (ne_eqb (suc m) 0 (λ (e : suc m ≡ 0). omega arith), left)

module _ (names ps fs ws : List ℕ) (query : Bool) (ms : List ℕ)
    (sound : SoundNames names (length ps) (length fs)) (mode : (v : ℕ) → Mode query (get_or ms v 0)) where
  abbrev symbols : Symbols
  symbols = declared_symbols names ps fs ws

  abbrev token : ℕ → List ℕ
  token = argument_token names (length ps) ms

  take_variable : (v atoms m cells seen : ℕ) (out : List ℕ) (ss : List (List ℕ)) (r' : Row) → v < 16 → v ≤ seen → cells < atom_cells
      → TakesTo symbols query (row_at ms atoms m (cells + 1) (meet seen v) (out ++ (first_variable + v) ∷ [])) ss r'
      → TakesTo symbols query (row_at ms atoms (suc m) cells seen out) (token (first_variable + v) ∷ ss) r'
  take_variable v atoms m cells seen out ss r' h known few k =
      let x = variable_read query ms v h (mode v) in
      let high : first_variable ≤ first_variable + v = omega arith in
      let same : first_variable + v - first_variable ≡ v = omega arith in
      rw (le-ltb (first_variable + v) first_variable high, same)
      (take_token symbols query (row_at ms atoms (suc m) cells seen out) (variable_token ms v) ss (met v x.0)
      (row_at ms atoms m (cells + 1) (meet seen v) (out ++ (first_variable + v) ∷ [])) r' (open_row query ms atoms m cells seen out)
      (argument_variable names ps fs ws query ms sound v atoms m cells seen out x.0 h known few x.1 x.2)
      (λ at. ap right (variable_row ms atoms m cells seen v out x.0 known x.2)) k)

  take_function : (f atoms m cells seen : ℕ) (out : List ℕ) (ss : List (List ℕ)) (r' : Row) → f < length fs → f < first_variable → cells < atom_cells
      → TakesTo symbols query (row_at ms atoms (get_or fs f 0 + m) (cells + 1) seen (out ++ f ∷ [])) ss r'
      → TakesTo symbols query (row_at ms atoms (suc m) cells seen out) (token f ∷ ss) r'
  take_function f atoms m cells seen out ss r' h low few k =
      rw (lt-ltb f first_variable low)
      (take_token symbols query (row_at ms atoms (suc m) cells seen out) (symbol_token names (length ps + f)) ss (symbol f (get_or fs f 0))
      (row_at ms atoms (get_or fs f 0 + m) (cells + 1) seen (out ++ f ∷ [])) r' (open_row query ms atoms m cells seen out)
      (argument_symbol names ps fs ws query ms sound f atoms m cells seen out h few)
      (λ at. ap right (function_row ms atoms m cells seen f (get_or fs f 0) out)) k)

  mutual
    take_term : (t : Term) (atoms m cells seen : ℕ) (out : List ℕ) (ss : List (List ℕ)) (r' : Row)
        → Keeps fs t → Numbered seen t → cells + length (enc t) ≤ atom_cells
        → TakesTo symbols query (row_at ms atoms m (cells + length (enc t)) (after seen t) (out ++ enc t)) ss r'
        → TakesTo symbols query (row_at ms atoms (suc m) cells seen out) (map token (enc t) ++ ss) r'
    take_term (var v) atoms m cells seen out ss r' keeps numbered short k =
        take_variable v atoms m cells seen out ss r' keeps numbered (omega arith) k
    take_term (app f ts) atoms m cells seen out ss r' keeps numbered short k =
        let size : length (enc (app f ts)) ≡ suc (length (encs ts)) = refl in
        let place : cells + 1 + length (encs ts) ≡ cells + suc (length (encs ts)) = omega arith in
        take_function f atoms m cells seen out (map token (encs ts) ++ ss) r' keeps.0 keeps.1 (omega arith)
        (rw (← keeps.2)
        (take_terms_law ts atoms m (cells + 1) seen (out ++ f ∷ []) ss r' keeps.3 numbered (omega arith)
        (rw (place, append_assoc out (f ∷ []) (encs ts)) k)))

    take_terms_law : (ts : Terms) (atoms m cells seen : ℕ) (out : List ℕ) (ss : List (List ℕ)) (r' : Row)
        → Keepss fs ts → Numbereds seen ts → cells + length (encs ts) ≤ atom_cells
        → TakesTo symbols query (row_at ms atoms m (cells + length (encs ts)) (afters seen ts) (out ++ encs ts)) ss r'
        → TakesTo symbols query (row_at ms atoms (count ts + m) cells seen out) (map token (encs ts) ++ ss) r'
    take_terms_law nil atoms m cells seen out ss r' keeps numbered short k = rw (zero-add m) (rw (add-zero cells, append-nil out) at k)
    take_terms_law (cons t ts) atoms m cells seen out ss r' keeps numbered short k =
        let size : length (enc t ++ encs ts) ≡ length (enc t) + length (encs ts) = length-append (enc t) (encs ts) in
        let place : cells + length (enc t) + length (encs ts) ≡ cells + length (enc t ++ encs ts) = omega arith in
        let first : cells + length (enc t) ≤ atom_cells = omega arith in
        let all : cells + length (enc t) + length (encs ts) ≤ atom_cells = omega arith in
        let one : suc (count ts) + m ≡ suc (count ts + m) = omega arith in
        rw (one, map-append token (enc t) (encs ts), append_assoc (map token (enc t)) (map token (encs ts)) ss)
        (take_term t atoms (count ts + m) cells seen out (map token (encs ts) ++ ss) r' keeps.0 numbered.0 first
        (take_terms_law ts atoms m (cells + length (enc t)) (after seen t) (out ++ enc t) ss r' keeps.1 numbered.1 all
        (rw (place, append_assoc out (enc t) (encs ts)) k)))

  take_predicate : (w : ℕ) (us : Terms) (atoms cells seen : ℕ) (out : List ℕ) (ss : List (List ℕ)) (r' : Row)
      → w < length ps → count us ≡ get_or ps w 0 → Keepss fs us → length (enc (app w us)) ≤ atom_cells → Numbereds seen us
      → atoms ≤ max_body → query && ltb 0 atoms ≡ false
      → TakesTo symbols query (row_at ms (atoms + 1) 0 (length (enc (app w us))) (afters seen us) (out ++ enc (app w us))) ss r'
      → TakesTo symbols query (row_at ms atoms 0 cells seen out) (atom_tokens names (length ps) ms (enc (app w us)) ++ ss) r'
  take_predicate w us atoms cells seen out ss r' h arity keeps short numbered few first k =
      let place : 1 + length (encs us) ≡ suc (length (encs us)) = omega arith in
      take_token symbols query (row_at ms atoms 0 cells seen out) (symbol_token names w) (map token (encs us) ++ ss) (symbol w (get_or ps w 0))
      (row_at ms (atoms + 1) (get_or ps w 0) 1 seen (out ++ w ∷ [])) r' first
      (start_symbol names ps fs ws query ms sound w atoms cells seen out h few)
      (λ at. ap right (rw (zero-add (get_or ps w 0))))
      (rw (← arity, ← add-zero (count us))
      (take_terms_law us (atoms + 1) 0 1 seen (out ++ w ∷ []) ss r' keeps numbered (omega arith)
      (rw (place, append_assoc out (w ∷ []) (encs us)) k)))

  -- an atom's tokens
  pub take_atom : (t : Term) (atoms cells seen : ℕ) (out : List ℕ) (ss : List (List ℕ)) (r' : Row)
      → Atom ps fs t → Numbered seen t → atoms ≤ max_body → query && ltb 0 atoms ≡ false
      → TakesTo symbols query (row_at ms (atoms + 1) 0 (length (enc t)) (after seen t) (out ++ enc t)) ss r'
      → TakesTo symbols query (row_at ms atoms 0 cells seen out) (atom_tokens names (length ps) ms (enc t) ++ ss) r'
  take_atom t atoms cells seen out ss r' a numbered few first k =
      rw a.is
      (take_predicate a.predicate a.arguments atoms cells seen out ss r' a.declared a.arity a.keeps (rw a.is at a.short)
      (rw a.is at numbered) few first (rw a.is at k))

  -- the line ends behind an atom
  pub take_end : (atoms cells seen : ℕ) (out : List ℕ) → 0 < atoms
      → TakesTo symbols query (row_at ms atoms 0 cells seen out) [] (row_at ms atoms 0 cells seen out)
  take_end atoms cells seen out h at = rw (lt-ltb 0 atoms h)
