-- The lines of a text: declarations, clauses, the query.
use Rattle.std.specs.Prelude.{ℕ, ◌+◌, ◌-◌, true, false, cond, List, [], ◌∷◌, ◌++◌, length, ltb}
use Rattle.program.specs.Reply.{too_soon, out_of_range, follows, ill_formed}
use Rattle.text.specs.Line.{parts, tab}
use Rattle.text_lines.specs.declared.keyword.Kind.{Kind}
use Rattle.text_lines.specs.declared.keyword.Kind.TheVariants.{Pred, Func, Clause, Query, Other}
use Rattle.text_lines.specs.Keyword.{clause, query, kind_of}
use Rattle.cells.specs.TextSoFar.{Read, wrong, right, next, pred_section, clause_section, TextSoFar, count, with_line, symbols_of, Scenario, Line, more, last}
use Rattle.declarations.specs.Declarations.{opens, pred_line, func_line}
use Rattle.cells.specs.Cells.{Row, no_cells, cells_of}

-- "C clauses: a body length m (0 to 16), the head atom, m body atoms"
abbrev pub with_clause : TextSoFar → Row → TextSoFar
with_clause t r = with_line t clause_section t.names ((r.atoms - 1) ∷ r.out)

abbrev pub clause_line : TextSoFar → ℕ → List (List ℕ) → Read TextSoFar
clause_line t at ss =
    opens t clause_section at (next (cells_of (symbols_of t) false no_cells (at + length clause) ss) (λ r. right (with_clause t r)))

-- the counts, what the lines say, and "the top goal: one atom, its variable count k, then k modes (0 any, 1 ground)"
abbrev pub with_goal : TextSoFar → Row → Scenario
with_goal t r = record { words = t.lines ++ (t.words ++ r.out ++ r.variables ∷ r.modes); names = t.names }

abbrev pub query_line : TextSoFar → ℕ → List (List ℕ) → Read Scenario
query_line t at ss =
    cond (ltb 0 (count t pred_section))
    (next (cells_of (symbols_of t) true no_cells (at + length query) ss) (λ r. right (with_goal t r)))
    (wrong out_of_range at)

-- "A line has a wrong form if its first field is no keyword, if its kind stands after a later kind, or if a declaration has not exactly three fields"
abbrev pub line_of : TextSoFar → ℕ → Kind → List (List ℕ) → Read Line
line_of t at Pred ss = next (pred_line t at ss) (λ t'. right (more t'))
line_of t at Func ss = next (func_line t at ss) (λ t'. right (more t'))
line_of t at Clause ss = next (clause_line t at ss) (λ t'. right (more t'))
line_of t at Query ss = next (query_line t at ss) (λ s. right (last s))
line_of t at Other ss = wrong ill_formed at

-- a line's first field, and the others
abbrev pub fields_of : TextSoFar → ℕ → List (List ℕ) → Read Line
fields_of t at [] = wrong ill_formed at
fields_of t at (k ∷ ss) = line_of t at (kind_of k) ss

-- "then one `query` line, last": nothing but the end stands behind it
abbrev pub ending : Scenario → ℕ → List ℕ → List (List ℕ) → Read Scenario
ending s at [] [] = right s
ending s at [] (m ∷ ls) = wrong follows at
ending s at (b ∷ bs) ls = wrong follows at

-- The text from a line on, which begins at `at`, and the lines behind it. What stands behind the last LF is no line:
-- "A last line without LF gives 1, once the lines before are sound; past the query's LF it is 7."
abbrev pub lines_of : TextSoFar → ℕ → List ℕ → List (List ℕ) → Read Scenario
lines_of t at l [] = wrong too_soon (at + length l)
lines_of t at l (m ∷ ls) =
    elim (fields_of t at (parts tab l)) [
      | wrong number place ↦ wrong number place
      | right (more t') ↦ lines_of t' (at + length l + 1) m ls
      | right (last s) ↦ ending s (at + length l + 1) m ls
    ]

abbrev pub all_lines : TextSoFar → ℕ → List (List ℕ) → Read Scenario
all_lines t at [] = wrong too_soon at
all_lines t at (l ∷ ls) = lines_of t at l ls
