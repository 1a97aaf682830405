-- One token that the reader takes for a cell is the token that the writer writes for that cell.
use Prim.Native.Nat.{ℕ, suc, ◌+◌, ◌-◌, ◌≤◌, ◌<◌}
use native.Mathlib.Omega.{arith}
use mathlib.Core.Path.{◌≡◌, refl, sym, ap, ◌∙◌}
use mathlib.Core.Bool.{Bool, true, false, cond}
use mathlib.Core.List.{List, ◌∷◌, ◌++◌}
use lib.ListN.{length, get_or, get_or-append}
use lib.Seq.{get_or-append-add}
use lib.Dec.{eqb, ltb, leb}
use borrow.Author.Tests.{ltb-true, ltb-false, leb-false, eqb-true, eqb-false}
use Rattle.std.specs.Prelude.{Option, Some, None}
use Rattle.terms.specs.Cells.{atom_cells}
use Rattle.program.specs.Limits.{max_declared, max_body, max_variable}
use Rattle.program.specs.Reply.{out_of_range, undeclared, bad_variable, long_atom, both_modes}
use Rattle.text.specs.Token.{is_name, token_of}
use Rattle.text.specs.Name.{padded, seek}
use Rattle.text.specs.Decimal.{decimal}
use Rattle.text.specs.declared.token.Token.{Token}
use Rattle.text.specs.declared.token.Token.TheVariants.{Name, Variable}
use Rattle.cells.specs.Symbols.{Symbols}
use Rattle.cells.specs.TextSoFar.{right}
use Rattle.cells.specs.Cells.{Row, mode_of, named_of, variable_at, start_of, argument_of, look_of, with_symbol, with_variable, taken_at, fault, symbol, met}
use Rattle.written_lines.specs.Tokens.{name_in, symbol_token}
use Rattle.round_trips.proofs.Tokens.{sign_byte, VariableToken, variable_token_law, name_token, name_in_padded, seek_found}

-- the declared symbols: the arities of each kind, in their places
pub record Declares (t : Symbols) (ps fs : List ℕ) : Type 0 where
  pub predicates : t.predicates ≡ length ps
  pub functions : t.functions ≡ length fs
  pub rest : List ℕ
  pub arities : t.arities ≡ ps ++ (fs ++ rest)
  pub few : length fs ≤ max_declared

-- what a token comes to: the row with its cell, and the token that is written for the cell
pub data Takes (t : Symbols) (ps fs : List ℕ) (query : Bool) (r : Row) (s : List ℕ) : Row → Type 0 where
  starts : {w : ℕ} → r.wanted ≡ 0 → r.atoms ≤ max_body → w < length ps → s ≡ symbol_token t.names w
      → Takes t ps fs query r s (with_symbol r w (get_or ps w 0))
  function : {w n : ℕ} → r.wanted ≡ suc n → r.cells < atom_cells → w < length fs → s ≡ symbol_token t.names (t.predicates + w)
      → Takes t ps fs query r s (with_symbol r w (get_or fs w 0))
  variable : {v n : ℕ} {grounded : Bool} → r.wanted ≡ suc n → r.cells < atom_cells → v ≤ max_variable → v ≤ r.variables
      → (v < r.variables → get_or r.modes v 0 ≡ mode_of grounded) → (query ≡ false → grounded ≡ false) → s ≡ sign_byte grounded ∷ decimal v
      → Takes t ps fs query r s (with_variable r v grounded)

-- a name that is found, and its cell
record Named (names words : List ℕ) (from to : ℕ) (s : List ℕ) (r r' : Row) : Type 0 where
  number : ℕ
  within : from + number < to
  token : s ≡ symbol_token names (from + number)
  row : with_symbol r number (get_or words (from + number) 0) ≡ r'

named_found : (names words : List ℕ) (from to : ℕ) (s : List ℕ) (r : Row) (at : ℕ) (r' : Row) → from ≤ to → is_name s ≡ true
    → taken_at r at (named_of names words from to s) ≡ right r' → Named names words from to s r r'
named_found names words from to s r at r' h is_name e = by (ltb found to) refl e
  where
    found : ℕ
    found = seek names (padded s) from (to - from)

    by : (b : Bool) → ltb found to ≡ b → taken_at r at (cond b (symbol (found - from) (get_or words found 0)) (fault undeclared)) ≡ right r'
        → Named names words from to s r r'
    by true b q =
        let below : found < to = ltb-true found to b in
        let is = seek_found names (padded s) from (to - from) (omega arith) in
        let back : from + (found - from) ≡ found = omega arith in
        let row : with_symbol r (found - from) (get_or words found 0) ≡ r' = cc in
        record {
          number = found - from;
          within = omega arith;
          token = rw back (sym (ap name_in is.1 ∙ name_in_padded s is_name));
          row = rw back row;
        }
    by false b q = let z : ◌≡◌ {A = ℕ} 0 1 = cc in absurd (omega arith)

module _ (t : Symbols) (ps fs : List ℕ) (declares : Declares t ps fs) where
  predicate_arity : (w : ℕ) → w < length ps → get_or t.arities w 0 ≡ get_or ps w 0
  predicate_arity w h = rw declares.arities (get_or-append ps (fs ++ declares.rest) 0 w h)

  function_arity : (w : ℕ) → w < length fs → get_or t.arities (t.predicates + w) 0 ≡ get_or fs w 0
  function_arity w h =
      rw (declares.arities, declares.predicates) (get_or-append-add ps (fs ++ declares.rest) w 0 ∙ get_or-append fs declares.rest 0 w h)

module _ (t : Symbols) (ps fs : List ℕ) (query : Bool) (declares : Declares t ps fs) (r : Row) (at : ℕ) (s : List ℕ) (r' : Row) where
  predicate_taken : r.wanted ≡ 0 → is_name s ≡ true → (b : Bool) → ltb max_body r.atoms ≡ b
      → taken_at r at (cond b (fault out_of_range) (named_of t.names t.arities 0 t.predicates s)) ≡ right r' → Takes t ps fs query r s r'
  predicate_taken none is_name true b q = let z : ◌≡◌ {A = ℕ} 0 1 = cc in absurd (omega arith)
  predicate_taken none is_name false b q =
      let found = named_found t.names t.arities 0 t.predicates s r at r' (omega arith) is_name q in
      let same : 0 + found.number ≡ found.number = omega arith in
      let below : found.number < length ps = omega (arith, found.within, declares.predicates) in
      let arity : get_or t.arities (0 + found.number) 0 ≡ get_or ps found.number 0 =
      ap (λ (k : ℕ). get_or t.arities k 0) same ∙ predicate_arity t ps fs declares found.number below in
      rw (← found.row, arity) (starts none (ltb-false max_body r.atoms b) below (rw same at found.token))

  function_taken : (n : ℕ) → r.wanted ≡ suc n → is_name s ≡ true → (b : Bool) → leb atom_cells r.cells ≡ b
      → taken_at r at (cond b (fault long_atom) (named_of t.names t.arities t.predicates (t.predicates + t.functions) s)) ≡ right r'
      → Takes t ps fs query r s r'
  function_taken n some is_name true b q = let z : ◌≡◌ {A = ℕ} 0 1 = cc in absurd (omega arith)
  function_taken n some is_name false b q =
      let found = named_found t.names t.arities t.predicates (t.predicates + t.functions) s r at r' (omega arith) is_name q in
      let below : found.number < length fs = omega (arith, found.within, declares.functions) in
      rw (← found.row, function_arity t ps fs declares found.number below) (function some (leb-false atom_cells r.cells b) below found.token)

  variable_taken : (n v : ℕ) (grounded : Bool) → r.wanted ≡ suc n → VariableToken query s grounded v → (b : Bool) → leb atom_cells r.cells ≡ b
      → taken_at r at (cond b (fault long_atom) (variable_at r.variables r.modes v grounded)) ≡ right r' → Takes t ps fs query r s r'
  variable_taken n v grounded some token true b q = let z : ◌≡◌ {A = ℕ} 0 1 = cc in absurd (omega arith)
  variable_taken n v grounded some token false b q = large (ltb max_variable v) refl q
    where
      taken : v ≤ max_variable → v ≤ r.variables → (v < r.variables → get_or r.modes v 0 ≡ mode_of grounded)
          → taken_at r at (met v grounded) ≡ right r' → Takes t ps fs query r s r'
      taken small known mode q =
          let row : with_variable r v grounded ≡ r' = cc in
          rw (← row) (variable some (leb-false atom_cells r.cells b) small known mode token.any (token.is small))

      mode_same : v ≤ max_variable → v ≤ r.variables → (c : Bool) → eqb (get_or r.modes v 0) (mode_of grounded) ≡ c
          → taken_at r at (cond c (met v grounded) (fault both_modes)) ≡ right r' → Takes t ps fs query r s r'
      mode_same small known true c q = taken small known (λ l. eqb-true _ _ c) q
      mode_same small known false c q = let z : ◌≡◌ {A = ℕ} 0 1 = cc in absurd (omega arith)

      seen : v ≤ max_variable → v ≤ r.variables → (c : Bool) → ltb v r.variables ≡ c
          → taken_at r at (cond c (cond (eqb (get_or r.modes v 0) (mode_of grounded)) (met v grounded) (fault both_modes)) (met v grounded)) ≡ right r'
          → Takes t ps fs query r s r'
      seen small known true c q = mode_same small known (eqb (get_or r.modes v 0) (mode_of grounded)) refl q
      seen small known false c q = taken small known (λ l. absurd (let m = ltb-false v r.variables c in omega arith)) q

      skips : v ≤ max_variable → (c : Bool) → ltb r.variables v ≡ c
          → taken_at r at (cond c (fault bad_variable) (cond (ltb v r.variables) (cond (eqb (get_or r.modes v 0) (mode_of grounded)) (met v grounded) (fault both_modes)) (met v grounded))) ≡ right r'
          → Takes t ps fs query r s r'
      skips small true c q = let z : ◌≡◌ {A = ℕ} 0 1 = cc in absurd (omega arith)
      skips small false c q = seen small (ltb-false r.variables v c) (ltb v r.variables) refl q

      large : (c : Bool) → ltb max_variable v ≡ c
          → taken_at r at (cond c (fault bad_variable) (cond (ltb r.variables v) (fault bad_variable) (cond (ltb v r.variables) (cond (eqb (get_or r.modes v 0) (mode_of grounded)) (met v grounded) (fault both_modes)) (met v grounded)))) ≡ right r'
          → Takes t ps fs query r s r'
      large true c q = let z : ◌≡◌ {A = ℕ} 0 1 = cc in absurd (omega arith)
      large false c q = skips (ltb-false max_variable v c) (ltb r.variables v) refl q

  no_predicate : (b : Bool) → taken_at r at (cond b (fault out_of_range) (fault undeclared)) ≡ right r' → ⊥
  no_predicate true q = let z : ◌≡◌ {A = ℕ} 0 1 = cc in omega arith
  no_predicate false q = let z : ◌≡◌ {A = ℕ} 0 1 = cc in omega arith

  -- (token) each way to take a token
  pub token_takes : taken_at r at (look_of t query r s) ≡ right r' → Takes t ps fs query r s r'
  token_takes q = by (eqb r.wanted 0) refl (token_of query s) refl q
    where
      start : r.wanted ≡ 0 → (k : Option Token) → token_of query s ≡ k → taken_at r at (start_of t r.atoms s k) ≡ right r' → Takes t ps fs query r s r'
      start none None f q = let z : ◌≡◌ {A = ℕ} 0 1 = cc in absurd (omega arith)
      start none (Some Name) f q = predicate_taken none (name_token query s f) (ltb max_body r.atoms) refl q
      start none (Some (Variable grounded v)) f q = absurd (no_predicate (ltb max_body r.atoms) q)

      argument : (n : ℕ) → r.wanted ≡ suc n → (k : Option Token) → token_of query s ≡ k → taken_at r at (argument_of t r s k) ≡ right r' → Takes t ps fs query r s r'
      argument n some None f q = let z : ◌≡◌ {A = ℕ} 0 1 = cc in absurd (omega arith)
      argument n some (Some Name) f q = function_taken n some (name_token query s f) (leb atom_cells r.cells) refl q
      argument n some (Some (Variable grounded v)) f q = variable_taken n v grounded some (variable_token_law query s grounded v f) (leb atom_cells r.cells) refl q

      by : (b : Bool) → eqb r.wanted 0 ≡ b → (k : Option Token) → token_of query s ≡ k
          → taken_at r at (cond b (start_of t r.atoms s k) (argument_of t r s k)) ≡ right r' → Takes t ps fs query r s r'
      by true b k f q = start (eqb-true r.wanted 0 b) k f q
      by false b k f q =
          let other = eqb-false r.wanted 0 b in
          let some : r.wanted ≡ suc (r.wanted - 1) = omega arith in
          argument (r.wanted - 1) some k f q
