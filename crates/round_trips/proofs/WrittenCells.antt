-- The token that the writer writes for a cell is read as that cell.
use Prim.Native.Nat.{ℕ, zero, suc, ◌+◌, ◌-◌, ◌≤◌, ◌<◌}
use native.Mathlib.Omega.{arith}
use native.Mathlib.Numerals.{add-one}
use mathlib.Core.Path.{◌≡◌, refl, sym, ap₂, ◌∙◌}
use mathlib.Core.Logic.{◌⊎◌, inl, inr}
use mathlib.Core.Bool.{Bool, true, false, cond}
use mathlib.Core.List.{List, [], ◌∷◌, ◌++◌}
use lib.ListN.{length, get_or, length-append, get_or-append}
use lib.Seq.{get_or_at, get_or-append-add}
use native.Mathlib.Nat.{sub-zero}
use native.Mathlib.Decide.{dec_lt}
use lib.Dec.{eqb, ltb}
use borrow.Author.Tests.{lt-ltb, le-ltb, lt-leb, ltb-true, eq-eqb, ne_eqb}
use Rattle.std.specs.Prelude.{Some}
use Rattle.terms.specs.Cells.{variables, atom_cells}
use Rattle.program.specs.Limits.{max_body, max_variable, any_mode, ground_mode}
use Rattle.program.specs.Reply.{both_modes}
use Rattle.text.specs.Token.{token_of}
use Rattle.text.specs.Name.{padded, seek}
use Rattle.text.specs.declared.token.Token.TheVariants.{Variable}
use Rattle.text.proofs.Tokens.{token_of_name}
use Rattle.cells.specs.Symbols.{Symbols}
use Rattle.cells.specs.Cells.{Row, mode_of, look_of, fault, symbol, met}
use Rattle.written_lines.specs.Tokens.{symbol_token, variable_token}
use Rattle.round_trips.proofs.PrintedNumbers.{number_printed}
use Rattle.round_trips.proofs.ReadNames.{SoundNames}
use Rattle.round_trips.proofs.WrittenNames.{sound_name, SoundName, name_found, first_predicate, first_function}

-- the mode of a variable: `G` is for ground alone, and stands in the query alone
abbrev pub Mode : Bool → ℕ → Type 0
Mode query m = (m ≡ any_mode) ⊎ ((m ≡ ground_mode) × (query ≡ true))

-- the modes of the first k variables
abbrev pub modes_up_to : List ℕ → ℕ → List ℕ
modes_up_to ms zero = []
modes_up_to ms (suc k) = modes_up_to ms k ++ get_or ms k 0 ∷ []

pub length_modes_up_to : (ms : List ℕ) (k : ℕ) → length (modes_up_to ms k) ≡ k
length_modes_up_to ms zero = refl
length_modes_up_to ms (suc k) = rw (length-append (modes_up_to ms k) (get_or ms k 0 ∷ []), length_modes_up_to ms k, add-one k)

get_d_modes : (ms : List ℕ) (k v : ℕ) → v < k → get_or (modes_up_to ms k) v 0 ≡ get_or ms v 0
get_d_modes ms zero v h = absurd (omega arith)
get_d_modes ms (suc k) v h = go (dec_lt v k) (get_d_modes ms k v)
  where
    go : Dec (v < k) → (v < k → get_or (modes_up_to ms k) v 0 ≡ get_or ms v 0) → get_or (modes_up_to ms (suc k)) v 0 ≡ get_or ms v 0
    go (yes l) ih = get_or-append (modes_up_to ms k) (get_or ms k 0 ∷ []) 0 v (rw (length_modes_up_to ms k) l) ∙ ih l
    go (no l) ih =
        let last : v ≡ k = omega arith in
        rw last (get_or_at (modes_up_to ms k) (get_or ms k 0) [] 0 k (length_modes_up_to ms k))

-- the symbols that these arities declare, with words behind them
abbrev pub declared_symbols : List ℕ → List ℕ → List ℕ → List ℕ → Symbols
declared_symbols names ps fs ws = record { predicates = length ps; functions = length fs; names = names; arities = ps ++ (fs ++ ws) }

-- a line as far as it was read
abbrev pub row_at : List ℕ → ℕ → ℕ → ℕ → ℕ → List ℕ → Row
row_at ms atoms wanted cells seen out =
    record { wanted = wanted; cells = cells; atoms = atoms; variables = seen; modes = modes_up_to ms seen; out = out }

-- what a mode's sign is read as
pub variable_read : (query : Bool) (ms : List ℕ) (v : ℕ) → v < variables → Mode query (get_or ms v 0)
    → (grounded : Bool) × (token_of query (variable_token ms v) ≡ Some (Variable grounded v)) × (mode_of grounded ≡ get_or ms v 0)
variable_read query ms v h (inl any) =
    let sign : eqb (get_or ms v 0) ground_mode ≡ false = rw any in
    (false, rw (sign, (number_printed v h).read), sym any)
variable_read query ms v h (inr grounded) =
    let sign : eqb (get_or ms v 0) ground_mode ≡ true = rw grounded.0 in
    (true, rw (sign, grounded.1, (number_printed v h).read), sym grounded.0)

module _ (names ps fs ws : List ℕ) (query : Bool) (ms : List ℕ)
    (sound : SoundNames names (length ps) (length fs)) where
  abbrev symbols : Symbols
  symbols = declared_symbols names ps fs ws

  -- the first token of an atom
  pub start_symbol : (w atoms cells seen : ℕ) (out : List ℕ) → w < length ps → atoms ≤ max_body
      → look_of symbols query (row_at ms atoms 0 cells seen out) (symbol_token names w) ≡ symbol w (get_or ps w 0)
  start_symbol w atoms cells seen out h few =
      let s : SoundName names (length ps) w = sound_name sound w (omega arith) in
      let at : seek names (padded (symbol_token names w)) 0 (length ps - 0) ≡ w
      = name_found names (length ps) 0 (length ps) w (first_predicate (length ps) w h) (omega arith) h s in
      rw (token_of_name query (symbol_token names w) s.name, le-ltb max_body atoms few, at, lt-ltb w (length ps) h)
      (ap₂ symbol (sub-zero w) (get_or-append ps (fs ++ ws) 0 w h))

  -- an argument's token
  pub argument_symbol : (f atoms m cells seen : ℕ) (out : List ℕ) → f < length fs → cells < atom_cells
      → look_of symbols query (row_at ms atoms (suc m) cells seen out) (symbol_token names (length ps + f)) ≡ symbol f (get_or fs f 0)
  argument_symbol f atoms m cells seen out h few =
      let s : SoundName names (length ps) (length ps + f) = sound_name sound (length ps + f) (omega arith) in
      let below : length ps + f < length ps + length fs = omega arith in
      let at : seek names (padded (symbol_token names (length ps + f))) (length ps) (length ps + length fs - length ps) ≡ length ps + f
      = name_found names (length ps) (length ps) (length ps + length fs) (length ps + f) (first_function (length ps) (length ps + f) (omega arith)) (omega arith) below s in
      let wanting : eqb (suc m) 0 ≡ false = ne_eqb (suc m) 0 (λ (e : suc m ≡ 0). omega arith) in
      rw (wanting, token_of_name query (symbol_token names (length ps + f)) s.name, lt-leb atom_cells cells few, at, lt-ltb (length ps + f) (length ps + length fs) below)
      (ap₂ symbol (let e : length ps + f - length ps ≡ f = omega arith in e)
      (get_or-append-add ps (fs ++ ws) f 0 ∙ get_or-append fs ws 0 f h))

  pub argument_variable : (v atoms m cells seen : ℕ) (out : List ℕ) (grounded : Bool) → v < variables → v ≤ seen → cells < atom_cells
      → token_of query (variable_token ms v) ≡ Some (Variable grounded v) → mode_of grounded ≡ get_or ms v 0
      → look_of symbols query (row_at ms atoms (suc m) cells seen out) (variable_token ms v) ≡ met v grounded
  argument_variable v atoms m cells seen out grounded h known few is mode =
      let wanting : eqb (suc m) 0 ≡ false = ne_eqb (suc m) 0 (λ (e : suc m ≡ 0). omega arith) in
      let small : v ≤ max_variable = omega arith in
      rw (wanting, is, lt-leb atom_cells cells few, le-ltb max_variable v small, le-ltb seen v known)
      (seen_or_new (ltb v seen) refl)
    where
      seen_or_new : (t : Bool) → ltb v seen ≡ t
          → cond t (cond (eqb (get_or (modes_up_to ms seen) v 0) (mode_of grounded)) (met v grounded) (fault both_modes)) (met v grounded) ≡ met v grounded
      seen_or_new true e = rw (eq-eqb (get_or (modes_up_to ms seen) v 0) (mode_of grounded) (get_d_modes ms seen v (ltb-true v seen e) ∙ sym mode))
      seen_or_new false e = refl
