-- The numbers of the reader's faults: neither 0 nor 9, so that a reply with number 0 is an accepted text's, and one with number 9 says that there is no room; nor 10, which is withdrawn.
use Prim.Native.Nat.{ℕ, ◌+◌, ◌-◌}
use native.Mathlib.Omega.{arith}
use mathlib.Core.Path.{◌≡◌, refl}
use mathlib.Core.Bool.{Bool, true, false, cond, ◌&&◌}
use mathlib.Core.List.{List, [], ◌∷◌}
use lib.ListN.{length, get_or}
use lib.Dec.{eqb, ltb, leb}
use Rattle.std.specs.Prelude.{Option, Some, None}
use Rattle.terms.specs.Cells.{atom_cells}
use Rattle.program.specs.Limits.{max_arity, max_body, max_variable, max_words, max_bytes}
use Rattle.program.specs.Reply.{accepted, no_room, out_of_range, undeclared}
use Rattle.program.proofs.FaultNumbers.{FaultNumber}
use Rattle.text.specs.Line.{parts, tab, line_feed}
use Rattle.text.specs.Name.{padded, seek}
use Rattle.text.specs.Token.{token_of, number_of}
use Rattle.text.specs.declared.token.Token.{Token}
use Rattle.text.specs.declared.token.Token.TheVariants.{Name, Variable}
use Rattle.text_lines.specs.Keyword.{clause, query, kind_of}
use Rattle.text_lines.specs.declared.keyword.Kind.{Kind}
use Rattle.text_lines.specs.declared.keyword.Kind.TheVariants.{Pred, Func, Clause, Query, Other}
use Rattle.cells.specs.Symbols.{Symbols}
use Rattle.cells.specs.TextSoFar.{Read, wrong, right, next, pred_section, func_section, clause_section, TextSoFar, nothing, count, later, symbols_of, Scenario, Line, more, last}
use Rattle.declarations.specs.Declarations.{declaring, fresh, arity_of, symbol_of, two, may_come, opens, declared, declaration_line, pred_line, func_line}
use Rattle.cells.specs.Cells.{Row, mode_of, no_cells, named_of, variable_at, start_of, argument_of, look_of, taken_at, complete, cells_of, Look, fault, symbol, met}
use Rattle.text_lines.specs.Lines.{with_clause, with_goal, clause_line, query_line, line_of, fields_of, ending, lines_of, all_lines}
use Rattle.reader.specs.Read.{counted, read_of, in_rooms, answer_of, reply_of}
use Rattle.reader.proofs.TextLines.{after_line, lines_of_more}

abbrev pub FaultyBy : {A : Type 0} → Read A → Type 0
FaultyBy (wrong number place) = FaultNumber number
FaultyBy (right a) = Unit {0}

abbrev LookFaulty : Look → Type 0
LookFaulty (fault number) = FaultNumber number
LookFaulty (symbol word arity) = Unit {0}
LookFaulty (met v grounded) = Unit {0}

-- what holds of both holds of the choice
pub either : {A : Type 0} (P : A → Type 0) (b : Bool) {x y : A} → P x → P y → P (cond b x y)
either P true h k = h
either P false h k = k

pub next_faults : {A B : Type 0} (o : Read A) (f : A → Read B) → FaultyBy o → ((a : A) → FaultyBy (f a)) → FaultyBy (next o f)
next_faults (wrong number place) f h k = h
next_faults (right a) f h k = k a

named_faults : (names arities : List ℕ) (from to : ℕ) (s : List ℕ) → LookFaulty (named_of names arities from to s)
named_faults names arities from to s = either LookFaulty (ltb (seek names (padded s) from (to - from)) to) tt (omega arith)

variable_faults : (seen : ℕ) (modes : List ℕ) (v : ℕ) (grounded : Bool) → LookFaulty (variable_at seen modes v grounded)
variable_faults seen modes v grounded =
    either LookFaulty (ltb max_variable v) (omega arith)
    (either LookFaulty (ltb seen v) (omega arith)
    (either LookFaulty (ltb v seen) (either LookFaulty (eqb (get_or modes v 0) (mode_of grounded)) tt (omega arith)) tt))

start_faults : (t : Symbols) (atoms : ℕ) (s : List ℕ) (k : Option Token) → LookFaulty (start_of t atoms s k)
start_faults t atoms s None = omega arith
start_faults t atoms s (Some Name) = either LookFaulty (ltb max_body atoms) (omega arith) (named_faults t.names t.arities 0 t.predicates s)
start_faults t atoms s (Some (Variable grounded v)) = either LookFaulty (ltb max_body atoms) {x = fault out_of_range} {y = fault undeclared} (omega arith) (omega arith)

argument_faults : (t : Symbols) (r : Row) (s : List ℕ) (k : Option Token) → LookFaulty (argument_of t r s k)
argument_faults t r s None = omega arith
argument_faults t r s (Some Name) =
    either LookFaulty (leb atom_cells r.cells) (omega arith) (named_faults t.names t.arities t.predicates (t.predicates + t.functions) s)
argument_faults t r s (Some (Variable grounded v)) = either LookFaulty (leb atom_cells r.cells) (omega arith) (variable_faults r.variables r.modes v grounded)

taken_faults : (r : Row) (at : ℕ) (l : Look) → LookFaulty l → FaultyBy (taken_at r at l)
taken_faults r at (fault number) h = h
taken_faults r at (symbol word arity) h = tt
taken_faults r at (met v grounded) h = tt

cells_faults : (ss : List (List ℕ)) (t : Symbols) (query : Bool) (r : Row) (at : ℕ) → FaultyBy (cells_of t query r at ss)
cells_faults [] t query r at = either FaultyBy (complete r) tt (omega arith)
cells_faults (s ∷ ss) t query r at =
    either FaultyBy (query && complete r) (omega arith)
    (next_faults (taken_at r (at + 1) (look_of t query r s)) (λ r'. cells_of t query r' (at + 1 + length s) ss)
    (taken_faults r (at + 1) (look_of t query r s)
    (either LookFaulty (eqb r.wanted 0) (start_faults t r.atoms s (token_of query s)) (argument_faults t r s (token_of query s))))
    (λ r'. cells_faults ss t query r' (at + 1 + length s)))

arity_faults : (at : ℕ) (n : Option ℕ) → FaultyBy (arity_of at n)
arity_faults at None = omega arith
arity_faults at (Some n) = either FaultyBy (ltb max_arity n) (omega arith) tt

declared_faults : (t : TextSoFar) (section : ℕ) (name : List ℕ) (d : Read ℕ) → FaultyBy d → FaultyBy (declared t section name d)
declared_faults t section name (wrong number place) h = h
declared_faults t section name (right arity) h = tt

symbol_faults : (t : TextSoFar) (section from n at : ℕ) (name arity : List ℕ) → FaultyBy (declared t section name (symbol_of t.names from n at name arity))
symbol_faults t section from n at name arity =
    declared_faults t section name (symbol_of t.names from n at name arity)
    (either FaultyBy (fresh t.names from n name) (arity_faults (at + 1 + length name + 1) (number_of arity)) (omega arith))

opens_faults : {A : Type 0} (t : TextSoFar) (section at : ℕ) (o : Read A) → FaultyBy o → FaultyBy (opens t section at o)
opens_faults t section at o h =
    either FaultyBy (eqb (later t.lines section) 0) (either FaultyBy (may_come t section) h (omega arith)) (omega arith)

two_faults : {A : Type 0} (at : ℕ) (ss : List (List ℕ)) (f : List ℕ → List ℕ → Read A) → ((name arity : List ℕ) → FaultyBy (f name arity)) → FaultyBy (two at ss f)
two_faults at [] f h = omega arith
two_faults at (name ∷ []) f h = omega arith
two_faults at (name ∷ arity ∷ []) f h = h name arity
two_faults at (name ∷ arity ∷ other ∷ ss) f h = omega arith

declaration_faults : (t : TextSoFar) (section from at : ℕ) (ss : List (List ℕ)) → FaultyBy (declaration_line t section from at ss)
declaration_faults t section from at ss =
    two_faults at ss _ (λ name arity. opens_faults t section at _ (symbol_faults t section from (count t section) (at + declaring) name arity))

line_faults : (t : TextSoFar) (at : ℕ) (k : Kind) (ss : List (List ℕ)) → FaultyBy (line_of t at k ss)
line_faults t at Pred ss = next_faults (pred_line t at ss) (λ t'. right (more t')) (declaration_faults t pred_section 0 at ss) (λ t'. tt)
line_faults t at Func ss = next_faults (func_line t at ss) (λ t'. right (more t')) (declaration_faults t func_section (count t pred_section) at ss) (λ t'. tt)
line_faults t at Clause ss =
    next_faults (clause_line t at ss) (λ t'. right (more t'))
    (opens_faults t clause_section at _
    (next_faults (cells_of (symbols_of t) false no_cells (at + length clause) ss) (λ r. right (with_clause t r)) (cells_faults ss (symbols_of t) false no_cells (at + length clause)) (λ r. tt)))
    (λ t'. tt)
line_faults t at Query ss =
    next_faults (query_line t at ss) (λ s. right (last s))
    (either FaultyBy (ltb 0 (count t pred_section))
    (next_faults (cells_of (symbols_of t) true no_cells (at + length query) ss) (λ r. right (with_goal t r)) (cells_faults ss (symbols_of t) true no_cells (at + length query)) (λ r. tt))
    (omega arith))
    (λ s. tt)
line_faults t at Other ss = omega arith

fields_faults : (t : TextSoFar) (at : ℕ) (ss : List (List ℕ)) → FaultyBy (fields_of t at ss)
fields_faults t at [] = omega arith
fields_faults t at (k ∷ ss) = line_faults t at (kind_of k) ss

ending_faults : (s : Scenario) (at : ℕ) (m : List ℕ) (ls : List (List ℕ)) → FaultyBy (ending s at m ls)
ending_faults s at [] [] = tt
ending_faults s at [] (m ∷ ls) = omega arith
ending_faults s at (b ∷ m) ls = omega arith

lines_faults : (ls : List (List ℕ)) (t : TextSoFar) (at : ℕ) (l : List ℕ) → FaultyBy (lines_of t at l ls)
lines_faults [] t at l = omega arith
lines_faults (m ∷ ls) t at l =
    rw (lines_of_more t at l m ls) (by (fields_of t at (parts tab l)) (fields_faults t at (parts tab l)) (λ t'. lines_faults ls t' (at + length l + 1) m))
  where
    by : (o : Read Line) → FaultyBy o → ((t' : TextSoFar) → FaultyBy (lines_of t' (at + length l + 1) m ls)) → FaultyBy (after_line o (at + length l + 1) m ls)
    by (wrong number place) h ih = h
    by (right (more t')) h ih = ih t'
    by (right (last s)) h ih = ending_faults s (at + length l + 1) m ls

all_faults : (ls : List (List ℕ)) → FaultyBy (all_lines nothing 0 ls)
all_faults [] = omega arith
all_faults (l ∷ ls) = lines_faults ls nothing 0 l

pub read_faults : (text : List ℕ) → FaultyBy (read_of text)
unfolding read_of
read_faults text =
    either FaultyBy (ltb max_bytes (length text)) (omega arith)
    (next_faults (all_lines nothing 0 (parts line_feed text)) (counted (length text)) (all_faults (parts line_feed text))
    (λ s. either FaultyBy (ltb max_words (length s.words)) (omega arith) tt))

-- a text that is read has an answer as its rooms allow; any other, its fault
accepted_right : (o : Read Scenario) (words names : ℕ) → FaultyBy o → (reply_of (next o (in_rooms words names))).number ≡ accepted
    → (s : Scenario) × (next o (in_rooms words names) ≡ right s)
accepted_right (wrong number place) words names h e = absurd (omega arith)
accepted_right (right s) words names h e = (s, at (ltb words (length s.words)) (ltb names (length s.names)) e)
  where
    at : (a b : Bool) → (reply_of (cond a (wrong no_room words) (cond b (wrong no_room names) (right s)))).number ≡ accepted
        → cond a (wrong no_room words) (cond b (wrong no_room names) (right s)) ≡ right s
    at true b e = absurd (omega arith)
    at false true e = absurd (omega arith)
    at false false e = refl

-- a reply with number 0 is that of a text that was read
pub accepted_read : (text : List ℕ) (words names : ℕ) → (reply_of (answer_of text words names)).number ≡ accepted
    → (s : Scenario) × (answer_of text words names ≡ right s)
accepted_read text words names e = accepted_right (read_of text) words names (read_faults text) e
