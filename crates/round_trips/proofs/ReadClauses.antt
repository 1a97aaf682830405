-- Clause lines: the clause that is made of a line's tokens is within the limits, and is written as the line.
use Prim.Native.Nat.{ℕ, ◌+◌, ◌-◌, ◌≤◌, ◌<◌}
use native.Mathlib.Omega.{arith}
use mathlib.Core.Path.{◌≡◌, refl, sym, ap, ap₂, subst, ◌∙◌}
use mathlib.Core.Bool.{Bool, true, false}
use mathlib.Core.List.{List, [], ◌∷◌, ◌++◌, map, append-nil}
use lib.ListN.{length, get_or, length-append}
use Rattle.terms.specs.Term.{Term, Terms, nil}
use Rattle.terms.specs.Cells.{enc, first_variable, Atom}
use Rattle.program.specs.Limits.{max_declared, max_body, any_mode}
use Rattle.program.specs.Reading.{Decoded, right as part}
use Rattle.program.specs.Program.{Clause}
use Rattle.program.specs.Atoms.{terms, atoms}
use Rattle.program.specs.Within.{Each, none, more, NumberedAll, encode_atoms, WithinClause}
use Rattle.program.proofs.Taking.{no_terms}
use Rattle.program.proofs.AtomWords.{AtomsRead, atoms_read}
use Rattle.text_lines.specs.Keyword.{clause}
use Rattle.cells.specs.Symbols.{Symbols}
use Rattle.cells.specs.TextSoFar.{right, next, clause_section, TextSoFar, count, symbols_of}
use Rattle.cells.specs.Cells.{Row, no_cells, cells_of}
use Rattle.text_lines.specs.Lines.{with_clause, clause_line}
use Rattle.written_lines.specs.Tokens.{symbol_token, argument_token, atom_tokens, atoms_tokens, line}
use Rattle.round_trips.proofs.Printed.{each_append}
use Rattle.round_trips.proofs.ReadParts.{next_right}
use Rattle.round_trips.proofs.ReadTokens.{Declares}
use Rattle.round_trips.proofs.ReadModes.{Modal, no_modes}
use Rattle.round_trips.proofs.ReadAtoms.{all_tokens, Taken, cells_taken}
use Rattle.round_trips.proofs.Sections.{Section, SoFar, grown, line_added, section_grown}
use Rattle.round_trips.proofs.ReadSoFar.{Begun, clause_items, predicates_of, functions_of, clauses_of, sections_of, ReadSoFar, predicates_counted, functions_counted, opens_right}

-- the atoms of a whole line
pub record LineAtoms (t : Symbols) (ps fs : List ℕ) (query : Bool) (ss : List (List ℕ)) (r : Row) : Type 0 where
  pub all : List Term
  pub taken : atoms ps fs (length all) 0 r.out ≡ part (all, r.variables) []
  pub counted : r.atoms ≡ length all
  pub most : r.atoms ≤ max_body + 1
  pub single : query ≡ true → r.atoms ≤ 1
  pub some : 0 < r.atoms
  pub modal : Modal query r
  pub tokens : ss ≡ all_tokens t.names t.predicates r.modes all

-- from the first token on, no atom was begunWith before
none_begun : (fs cells rest : List ℕ) (arguments : Terms) (met : ℕ) → terms fs cells 0 0 0 ≡ part (arguments, met) rest
    → (arguments ≡ nil) × (met ≡ 0) × (rest ≡ cells)
none_begun fs cells rest arguments met e =
    let q : ◌≡◌ {A = Decoded (Terms × ℕ)} (part (nil, 0) cells) (part (arguments, met) rest) = sym (no_terms fs cells 0 0) ∙ e in
    let same : ◌≡◌ {A = Terms × ℕ} (nil, 0) (arguments, met) = cc in
    let left : cells ≡ rest = cc in
    (sym (ap (λ (x : Terms × ℕ). x.0) same), sym (ap (λ (x : Terms × ℕ). x.1) same), sym left)

pub line_atoms : (t : Symbols) (ps fs : List ℕ) (query : Bool) (ss : List (List ℕ)) (r : Row) → Taken t ps fs query no_cells ss r → LineAtoms t ps fs query ss r
line_atoms t ps fs query ss r k =
    let before = none_begun fs k.cells k.rest k.arguments k.met k.begun in
    record {
      all = k.others;
      taken = rw (k.out, ← before.2, ← before.1) k.more;
      counted = omega (arith, k.counted);
      most = k.most (omega arith);
      single = λ e. k.single e (omega arith);
      some = k.some;
      modal = k.modal;
      tokens = rw before.0 at k.tokens;
    }

pub so_declares : {t : TextSoFar} {text : List ℕ} (b : Begun) → SoFar t text (sections_of t.names b) → length b.functions ≤ max_declared
    → Declares (symbols_of t) b.predicates b.functions
so_declares b so few =
    record { predicates = predicates_counted _ b so; functions = functions_counted _ b so; rest = _; arities = so.words; few = few }

-- in a clause no mode is ground, so that none need be said
module _ (names : List ℕ) (predicates : ℕ) (modes : List ℕ) (any : (v : ℕ) → get_or modes v 0 ≡ any_mode) where
  argument_any : (w : ℕ) → argument_token names predicates modes w ≡ argument_token names predicates [] w
  argument_any w = rw (any (w - first_variable))

  arguments_any : (ws : List ℕ) → map (argument_token names predicates modes) ws ≡ map (argument_token names predicates []) ws
  arguments_any [] = refl
  arguments_any (w ∷ ws) = ap₂ (λ (x : List ℕ) (l : List (List ℕ)). x ∷ l) (argument_any w) (arguments_any ws)

  atom_any : (ws : List ℕ) → atom_tokens names predicates modes ws ≡ atom_tokens names predicates [] ws
  atom_any [] = refl
  atom_any (w ∷ ws) = ap (λ (l : List (List ℕ)). symbol_token names w ∷ l) (arguments_any ws)

  tokens_any : (ts : List Term) → all_tokens names predicates modes ts ≡ atoms_tokens names predicates ts
  tokens_any [] = refl
  tokens_any (t ∷ ts) = ap₂ (λ (x y : List (List ℕ)). x ++ y) (atom_any (enc t)) (tokens_any ts)

-- what is known of a clause that was read
record ClauseLine (t : Symbols) (ps fs : List ℕ) (ss : List (List ℕ)) (r : Row) : Type 0 where
  is : Clause
  length_is : r.atoms - 1 ≡ length is.body
  cells : r.out ≡ enc is.head ++ encode_atoms is.body
  within : WithinClause ps fs is
  tokens : ss ≡ atoms_tokens t.names t.predicates (is.head ∷ is.body)

clause_made : (t : Symbols) (ps fs : List ℕ) (ss : List (List ℕ)) (r : Row) → LineAtoms t ps fs false ss r → ClauseLine t ps fs ss r
clause_made t ps fs ss r k = by k.all k.counted k.tokens (atoms_read ps fs (length k.all) 0 r.out k.all r.variables [] k.taken)
  where
    within_of : (h : Term) (body : List Term) → length (h ∷ body) ≤ max_body + 1 → Each (Atom ps fs) (h ∷ body) → NumberedAll 0 (h ∷ body)
        → WithinClause ps fs (record { head = h; body = body })
    within_of h body few (more a each) numbered = record { body = omega arith; head_atom = a; body_atoms = each; numbered = numbered }

    by : (all : List Term) → r.atoms ≡ length all → ss ≡ all_tokens t.names t.predicates r.modes all
        → AtomsRead ps fs (length all) 0 r.out all [] → ClauseLine t ps fs ss r
    by [] count tokens read = absurd (omega (arith, k.some))
    by (h ∷ body) count tokens read =
        record {
          is = record { head = h; body = body };
          length_is = omega arith;
          cells = read.are ∙ append-nil (enc h ++ encode_atoms body);
          within = within_of h body (omega (arith, k.most)) read.sound read.numbered;
          tokens = tokens ∙ tokens_any t.names t.predicates r.modes (k.modal.any refl) (h ∷ body);
        }

module _ (t : TextSoFar) (text : List ℕ) (read : ReadSoFar t text) (few : count t clause_section < max_declared) (ss : List (List ℕ)) (r : Row)
    (c : ClauseLine (symbols_of t) read.program.predicates read.program.functions ss r) where
  abbrev ps : List ℕ
  ps = read.program.predicates

  abbrev fs : List ℕ
  fs = read.program.functions

  abbrev cs : List Clause
  cs = read.program.clauses

  -- the words and the tokens of the line are those of the clause
  clauses_grown : grown (clauses_of t.names (length ps) cs) ((r.atoms - 1) ∷ r.out) (line clause ss) ≡ clauses_of t.names (length ps) (cs ++ c.is ∷ [])
  clauses_grown =
      let said : (r.atoms - 1) ∷ r.out ≡ length c.is.body ∷ encode_atoms (c.is.head ∷ c.is.body) = rw (c.length_is, c.cells) in
      let tokens : ss ≡ atoms_tokens t.names (length ps) (c.is.head ∷ c.is.body)
      = c.tokens ∙ ap (λ (n : ℕ). atoms_tokens t.names n (c.is.head ∷ c.is.body)) (predicates_counted t.names read.program read.so) in
      ap₂ (λ (ws : List ℕ) (y : List (List ℕ)). grown (clauses_of t.names (length ps) cs) ws (line clause y)) said tokens
      ∙ section_grown (clause_items t.names (length ps)) 0 cs c.is

  clause_added : ReadSoFar (with_clause t r) (text ++ line clause ss)
  clause_added =
      let front : List Section = predicates_of t.names ps ∷ functions_of t.names (length ps) fs ∷ [] in
      let size : length (cs ++ c.is ∷ []) ≡ length cs + 1 = length-append cs (c.is ∷ []) in
      let counted : count t clause_section ≡ length cs = ap (λ (l : List ℕ). get_or l clause_section 0) read.so.lines in
      record {
        program = record { predicates = ps; functions = fs; clauses = cs ++ c.is ∷ [] };
        so =
            subst (λ (s : Section). SoFar (with_clause t r) (text ++ line clause ss) (front ++ s ∷ [])) clauses_grown
            (line_added t text front (clauses_of t.names (length ps) cs) 0 t.names ((r.atoms - 1) ∷ r.out) (line clause ss) read.so);
        within =
            record {
              predicates_most = read.within.predicates_most;
              functions_most = read.within.functions_most;
              clauses_most = omega arith;
              predicate_arities = read.within.predicate_arities;
              function_arities = read.within.function_arities;
              clauses_within = each_append cs (c.is ∷ []) read.within.clauses_within (more c.within none);
            };
        sound = read.sound;
      }

-- a `clause` line
pub clause_read : (t t' : TextSoFar) (text : List ℕ) (at : ℕ) (ss : List (List ℕ)) → ReadSoFar t text → clause_line t at ss ≡ right t' → ReadSoFar t' (text ++ line clause ss)
clause_read t t' text at ss read e =
    let b = read.program in
    let cells = cells_of (symbols_of t) false no_cells (at + length clause) ss in
    let opening = opens_right t clause_section at (next cells (λ r. right (with_clause t r))) t' e in
    let two = next_right cells (λ r. right (with_clause t r)) t' opening.1 in
    let declares = so_declares b read.so read.within.functions_most in
    let k = cells_taken (symbols_of t) b.predicates b.functions false declares ss no_cells (at + length clause) two.0 (no_modes false) two.1 in
    let c = clause_made (symbols_of t) b.predicates b.functions ss two.0 (line_atoms (symbols_of t) b.predicates b.functions false ss two.0 k) in
    let same : with_clause t two.0 ≡ t' = cc two.2 in
    rw (← same) (clause_added t text read opening.0.few ss two.0 c)
