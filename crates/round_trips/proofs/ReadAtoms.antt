-- The tokens of a line are those that the writer writes for the atoms made of them; the cells are these atoms', as the program reads them.
use Prim.Native.Nat.{ℕ, zero, suc, ◌+◌, ◌-◌, ◌≤◌, ◌<◌}
use native.Mathlib.Omega.{arith}
use mathlib.Core.Path.{◌≡◌, refl, sym, ap, ap₂, ◌∙◌}
use mathlib.Core.Bool.{Bool, true, false, cond, ◌&&◌}
use mathlib.Core.List.{List, [], ◌∷◌, ◌++◌, map, append-nil, append_assoc}
use lib.ListN.{length, get_or}
use lib.Dec.{eqb, ltb}
use borrow.Author.Tests.{lt-ltb, le-ltb, ltb-true, eqb-true, eq-eqb, ne_eqb}
use Rattle.terms.specs.Term.{Term, Terms, app, nil}
use Rattle.terms.specs.Cells.{enc, encs, first_variable, atom_cells}
use Rattle.terms.proofs.Runs.{encs_split}
use Rattle.program.specs.Limits.{max_body, max_variable}
use Rattle.program.specs.Reply.{too_soon, follows}
use Rattle.program.specs.Reading.{right as part}
use Rattle.program.specs.Atoms.{Opens, cell_of, build, terms, atom, atoms}
use Rattle.program.proofs.Taking.{terms_cell, no_terms}
use Rattle.program.proofs.WordsOfTerms.{function_opens, variable_opens}
use Rattle.text.specs.Decimal.{decimal}
use Rattle.cells.specs.Symbols.{Symbols}
use Rattle.cells.specs.TextSoFar.{wrong, right, next}
use Rattle.cells.specs.Cells.{Row, mode_of, look_of, with_symbol, with_variable, taken_at, complete, cells_of}
use Rattle.written_lines.specs.Tokens.{symbol_token, argument_token, atom_tokens}
use Rattle.round_trips.proofs.Tokens.{both_true, sign_byte, variable_token_is}
use Rattle.round_trips.proofs.ReadParts.{next_right}
use Rattle.round_trips.proofs.ReadTokens.{Declares, Takes, starts, function, variable, token_takes}
use Rattle.round_trips.proofs.ReadModes.{Modal, variable_modal, variable_keeps, variable_mode, variable_meets, variable_within, variables_grow}

-- the tokens of atoms one after another, with these modes
abbrev pub all_tokens : List ℕ → ℕ → List ℕ → List Term → List (List ℕ)
all_tokens names predicates modes [] = []
all_tokens names predicates modes (a ∷ others) = atom_tokens names predicates modes (enc a) ++ all_tokens names predicates modes others

-- what is known of a line from row r to its end, row r': arguments of the atom that was begun, and other atoms
pub record Taken (t : Symbols) (ps fs : List ℕ) (query : Bool) (r : Row) (ss : List (List ℕ)) (r' : Row) : Type 0 where
  pub cells : List ℕ
  pub out : r'.out ≡ r.out ++ cells
  pub arguments : Terms
  pub met : ℕ
  pub rest : List ℕ
  pub begun : terms fs cells r.wanted r.cells r.variables ≡ part (arguments, met) rest
  pub others : List Term
  pub more : atoms ps fs (length others) met rest ≡ part (others, r'.variables) []
  pub counted : r'.atoms ≡ r.atoms + length others
  pub most : r.atoms ≤ max_body + 1 → r'.atoms ≤ max_body + 1
  pub single : query ≡ true → r.atoms ≤ 1 → r'.atoms ≤ 1
  pub some : 0 < r'.atoms
  pub modal : Modal query r'
  pub keeps : (v : ℕ) → v < r.variables → get_or r'.modes v 0 ≡ get_or r.modes v 0
  pub tokens : ss ≡ map (argument_token t.names t.predicates r'.modes) (encs arguments) ++ all_tokens t.names t.predicates r'.modes others

-- an argument's cell, and the terms that it is read with
argument_opens : (fs cells : List ℕ) (w n taken seen arity now : ℕ) (ts : Terms) (met : ℕ) (rest : List ℕ) → cell_of fs taken seen w ≡ Opens arity now
    → terms fs cells (arity + n) (suc taken) now ≡ part (ts, met) rest → terms fs (w ∷ cells) (suc n) taken seen ≡ part (build w arity ts, met) rest
argument_opens fs cells w n taken seen arity now ts met rest e h = terms_cell fs w cells n taken seen (Opens arity now) e ∙ rw h

atom_opens : (ps fs cells : List ℕ) (w seen : ℕ) (ts : Terms) (met : ℕ) (rest : List ℕ) (others : List Term) (last : ℕ) → w < length ps
    → terms fs cells (get_or ps w 0) 1 seen ≡ part (ts, met) rest → atoms ps fs (length others) met rest ≡ part (others, last) []
    → atoms ps fs (suc (length others)) seen (w ∷ cells) ≡ part (app w ts ∷ others, last) []
unfolding atom atoms
atom_opens ps fs cells w seen ts met rest others last h e f = rw (lt-ltb w (length ps) h, e, f)

no_atoms : (ps fs : List ℕ) (seen : ℕ) → atoms ps fs 0 seen [] ≡ part ([], seen) []
unfolding atoms
no_atoms ps fs seen = refl

encs_function : (w arity : ℕ) (ts : Terms) → w < first_variable → encs (build w arity ts) ≡ w ∷ encs ts
encs_function w arity ts h = rw (lt-ltb w first_variable h) (ap (λ (l : List ℕ). w ∷ l) (encs_split arity ts))

encs_variable : (v arity : ℕ) (ts : Terms) → encs (build (first_variable + v) arity ts) ≡ (first_variable + v) ∷ encs ts
encs_variable v arity ts =
    let high : first_variable ≤ first_variable + v = omega arith in
    let same : first_variable + v - first_variable ≡ v = omega arith in
    rw (le-ltb (first_variable + v) first_variable high) (rw same)

module _ (t : Symbols) (ps fs : List ℕ) (query : Bool) (declares : Declares t ps fs) (r : Row) (s : List ℕ) (ss : List (List ℕ)) (r' : Row) where
  -- an atom's first token
  start_more : (w : ℕ) → r.wanted ≡ 0 → r.atoms ≤ max_body → w < length ps → s ≡ symbol_token t.names w → (query ≡ true → r.atoms ≡ 0)
      → Taken t ps fs query (with_symbol r w (get_or ps w 0)) ss r' → Taken t ps fs query r (s ∷ ss) r'
  start_more w none few below token first k =
      let zero-wanted : eqb r.wanted 0 ≡ true = eq-eqb r.wanted 0 none in
      let arity : r.wanted - 1 + get_or ps w 0 ≡ get_or ps w 0 = omega arith in
      let begun = rw (arity, zero-wanted) at k.begun in
      let count : r'.atoms ≡ r.atoms + 1 + length k.others = rw zero-wanted at k.counted in
      let most : r.atoms + 1 ≤ max_body + 1 → r'.atoms ≤ max_body + 1 = rw zero-wanted at k.most in
      let single : query ≡ true → r.atoms + 1 ≤ 1 → r'.atoms ≤ 1 = rw zero-wanted at k.single in
      record {
        cells = w ∷ k.cells;
        out = k.out ∙ append_assoc r.out (w ∷ []) k.cells;
        arguments = nil;
        met = r.variables;
        rest = w ∷ k.cells;
        begun = rw none (no_terms fs (w ∷ k.cells) r.cells r.variables);
        others = app w k.arguments ∷ k.others;
        more = atom_opens ps fs k.cells w r.variables k.arguments k.met k.rest k.others r'.variables below begun k.more;
        counted = omega arith;
        most = λ h. most (omega arith);
        single = λ e h. single e (omega (arith, first e));
        some = k.some;
        modal = k.modal;
        keeps = k.keeps;
        tokens = ap₂ (λ (x : List ℕ) (l : List (List ℕ)). x ∷ l) token k.tokens;
      }

  -- a token of an argument
  argument_more : (r₁ : Row) (w n arity : ℕ) → r.wanted ≡ suc n → cell_of fs r.cells r.variables w ≡ Opens arity r₁.variables
      → r₁.wanted ≡ arity + n → r₁.cells ≡ suc r.cells → r₁.atoms ≡ r.atoms → r₁.out ≡ r.out ++ w ∷ []
      → r.variables ≤ r₁.variables → ((v : ℕ) → v < r.variables → get_or r₁.modes v 0 ≡ get_or r.modes v 0)
      → ((ts : Terms) → encs (build w arity ts) ≡ w ∷ encs ts) → s ≡ argument_token t.names t.predicates r'.modes w
      → Taken t ps fs query r₁ ss r' → Taken t ps fs query r (s ∷ ss) r'
  argument_more r₁ w n arity some-wanted opens wanted cells count out grow keep run token k =
      let begun = rw (wanted, cells) at k.begun in
      record {
        cells = w ∷ k.cells;
        out = k.out ∙ ap (λ (l : List ℕ). l ++ k.cells) out ∙ append_assoc r.out (w ∷ []) k.cells;
        arguments = build w arity k.arguments;
        met = k.met;
        rest = k.rest;
        begun = rw some-wanted (argument_opens fs k.cells w n r.cells r.variables arity r₁.variables k.arguments k.met k.rest opens begun);
        others = k.others;
        more = k.more;
        counted = k.counted ∙ ap (λ (m : ℕ). m + length k.others) count;
        most = λ h. k.most (omega arith);
        single = λ e h. k.single e (omega arith);
        some = k.some;
        modal = k.modal;
        keeps = λ v h. k.keeps v (omega arith) ∙ keep v h;
        tokens = rw (run k.arguments) (ap₂ (λ (x : List ℕ) (l : List (List ℕ)). x ∷ l) token k.tokens);
      }

  function_more : (w n : ℕ) → r.wanted ≡ suc n → r.cells < atom_cells → w < length fs → s ≡ symbol_token t.names (t.predicates + w)
      → Taken t ps fs query (with_symbol r w (get_or fs w 0)) ss r' → Taken t ps fs query r (s ∷ ss) r'
  function_more w n some-wanted short below token k =
      let low : w < first_variable = omega (arith, declares.few) in
      let not-zero : eqb r.wanted 0 ≡ false = ne_eqb r.wanted 0 (λ e. omega arith) in
      argument_more (with_symbol r w (get_or fs w 0)) w n (get_or fs w 0) some-wanted (function_opens fs r.cells r.variables w short low below)
      (omega arith) (rw not-zero (omega arith)) (rw not-zero) refl (omega arith) (λ v h. refl) (λ ts. encs_function w (get_or fs w 0) ts low)
      (rw (lt-ltb w first_variable low) token) k

  variable_more : (v n : ℕ) (grounded : Bool) → r.wanted ≡ suc n → r.cells < atom_cells → v ≤ max_variable → v ≤ r.variables
      → (v < r.variables → get_or r.modes v 0 ≡ mode_of grounded) → s ≡ sign_byte grounded ∷ decimal v → Modal query r
      → Taken t ps fs query (with_variable r v grounded) ss r' → Taken t ps fs query r (s ∷ ss) r'
  variable_more v n grounded some-wanted short small known mode token modal k =
      let high : first_variable ≤ first_variable + v = omega arith in
      let same : first_variable + v - first_variable ≡ v = omega arith in
      let final : get_or r'.modes v 0 ≡ mode_of grounded =
      k.keeps v (variable_within query r v grounded modal known) ∙ variable_mode query r v grounded modal known mode in
      argument_more (with_variable r v grounded) (first_variable + v) n 0 some-wanted
      (variable_opens fs r.cells r.variables v short small known ∙ ap (Opens 0) (sym (variable_meets query r v grounded modal known)))
      (omega arith) (omega arith) refl refl (variables_grow query r v grounded modal known) (variable_keeps query r v grounded modal known)
      (encs_variable v 0)
      (rw (le-ltb (first_variable + v) first_variable high) (rw same (token ∙ sym (variable_token_is r'.modes v grounded final)))) k

-- (atom) a line's tokens, from a row on
module _ (t : Symbols) (ps fs : List ℕ) (query : Bool) (declares : Declares t ps fs) where
  -- the row with the token's cell has its modes too
  taken_modal : {r r₁ : Row} {s : List ℕ} → Modal query r → Takes t ps fs query r s r₁ → Modal query r₁
  taken_modal m (starts none few below token) = record { met = m.met; each = m.each; any = m.any }
  taken_modal m (function some short below token) = record { met = m.met; each = m.each; any = m.any }
  taken_modal {r} m (variable {v} {n} {grounded} some short small known mode plain token) = variable_modal query r v grounded m known plain

  taken_more : (r r₁ : Row) (s : List ℕ) (ss : List (List ℕ)) (r' : Row) → Modal query r → (query ≡ true → r.wanted ≡ 0 → r.atoms ≡ 0)
      → Takes t ps fs query r s r₁ → Taken t ps fs query r₁ ss r' → Taken t ps fs query r (s ∷ ss) r'
  taken_more r r₁ s ss r' m once (starts {w} none few below token) k =
      start_more t ps fs query declares r s ss r' w none few below token (λ e. once e none) k
  taken_more r r₁ s ss r' m once (function {w} {n} some short below token) k = function_more t ps fs query declares r s ss r' w n some short below token k
  taken_more r r₁ s ss r' m once (variable {v} {n} {grounded} some short small known mode plain token) k =
      variable_more t ps fs query declares r s ss r' v n grounded some short small known mode token m k

  no_tokens : (r r' : Row) (at : ℕ) (b : Bool) → Modal query r → complete r ≡ b → cond b (right r) (wrong too_soon at) ≡ right r' → Taken t ps fs query r [] r'
  no_tokens r r' at true m e q =
      let same : r ≡ r' = cc in
      let done = both_true (eqb r.wanted 0) (ltb 0 r.atoms) e in
      let none : r.wanted ≡ 0 = eqb-true r.wanted 0 done.0 in
      let some : 0 < r.atoms = ltb-true 0 r.atoms done.1 in
      rw (← same)
      (record {
        cells = [];
        out = sym (append-nil r.out);
        arguments = nil;
        met = r.variables;
        rest = [];
        begun = rw none (no_terms fs [] r.cells r.variables);
        others = [];
        more = no_atoms ps fs r.variables;
        counted = omega arith;
        most = λ h. h;
        single = λ e h. h;
        some = some;
        modal = m;
        keeps = λ v h. refl;
        tokens = refl;
      })
  no_tokens r r' at false m e q = let z : ◌≡◌ {A = ℕ} 0 1 = cc in absurd (omega arith)

  pub cells_taken : (ss : List (List ℕ)) (r : Row) (at : ℕ) (r' : Row) → Modal query r → cells_of t query r at ss ≡ right r' → Taken t ps fs query r ss r'
  cells_taken [] r at r' m e = no_tokens r r' at (complete r) m refl e
  cells_taken (s ∷ ss) r at r' m e = by (query && complete r) refl e (λ r₁ m₁ q. cells_taken ss r₁ (at + 1 + length s) r' m₁ q)
    where
      once : query && complete r ≡ false → query ≡ true → r.wanted ≡ 0 → r.atoms ≡ 0
      once e is-query none = go r.atoms refl
        where
          go : (n : ℕ) → r.atoms ≡ n → r.atoms ≡ 0
          go zero a = a
          go (suc n) a =
              let full : query && complete r ≡ true =
              rw (is-query, eq-eqb r.wanted 0 none, lt-ltb 0 r.atoms (omega arith)) in
              let z : ◌≡◌ {A = ℕ} 0 1 = cc in
              absurd (omega arith)

      by : (b : Bool) → query && complete r ≡ b
          → cond b (wrong follows at) (next (taken_at r (at + 1) (look_of t query r s)) (λ r₁. cells_of t query r₁ (at + 1 + length s) ss)) ≡ right r'
          → ((r₁ : Row) → Modal query r₁ → cells_of t query r₁ (at + 1 + length s) ss ≡ right r' → Taken t ps fs query r₁ ss r')
          → Taken t ps fs query r (s ∷ ss) r'
      by true b q ih = let z : ◌≡◌ {A = ℕ} 0 1 = cc in absurd (omega arith)
      by false b q ih =
          let one = next_right (taken_at r (at + 1) (look_of t query r s)) (λ r₁. cells_of t query r₁ (at + 1 + length s) ss) r' q in
          let takes = token_takes t ps fs query declares r (at + 1) s one.0 one.1 in
          taken_more r one.0 s ss r' m (once b) takes (ih one.0 (taken_modal m takes) one.2)
