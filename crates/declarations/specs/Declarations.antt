-- Declaration lines: a name that is new in its kind, and its arity.
use Rattle.std.specs.Prelude.{ℕ, ◌+◌, Bool, cond, ◌&&◌, ◌||◌, Option, Some, None, List, [], ◌∷◌, ◌++◌, length, eqb, ltb}
use Rattle.program.specs.Limits.{max_declared, max_arity}
use Rattle.program.specs.Reply.{out_of_range, ill_formed, bad_name}
use Rattle.text.specs.Token.{is_name, number_of}
use Rattle.text.specs.Name.{padded, seek}
use Rattle.cells.specs.TextSoFar.{Read, wrong, right, pred_section, func_section, TextSoFar, count, later, with_line}

-- `pred` and `func` have four letters
abbrev pub declaring : ℕ
declaring = 4

-- "a declared name is ill formed, or declared twice in its kind": n names of the kind stand from number `from` on
abbrev pub fresh : List ℕ → ℕ → ℕ → List ℕ → Bool
fresh names from n s = is_name s && eqb (seek names (padded s) from n) (from + n)

abbrev pub arity_of : ℕ → Option ℕ → Read ℕ
arity_of at None = wrong ill_formed at
arity_of at (Some n) = cond (ltb max_arity n) (wrong out_of_range at) (right n)

-- a name and an arity, behind the tab at `at`
abbrev pub symbol_of : List ℕ → ℕ → ℕ → ℕ → List ℕ → List ℕ → Read ℕ
symbol_of names from n at name arity =
    cond (fresh names from n name) (arity_of (at + 1 + length name + 1) (number_of arity)) (wrong bad_name (at + 1))

-- "if a declaration has not exactly three fields": two behind the keyword
abbrev pub two : {A : Type 0} → ℕ → List (List ℕ) → (List ℕ → List ℕ → Read A) → Read A
two at [] f = wrong ill_formed at
two at (name ∷ []) f = wrong ill_formed at
two at (name ∷ arity ∷ []) f = f name arity
two at (name ∷ arity ∷ more ∷ ss) f = wrong ill_formed at

-- "a 65th declaration or clause", "no `pred`": a line of a section may come while it is neither
abbrev pub may_come : TextSoFar → ℕ → Bool
may_come t section = (eqb section pred_section || ltb 0 (count t pred_section)) && ltb (count t section) max_declared

-- and it stands in order: "its kind stands after a later kind" is 11, and comes before 2
abbrev pub opens : {A : Type 0} → TextSoFar → ℕ → ℕ → Read A → Read A
opens t section at line =
    cond (eqb (later t.lines section) 0) (cond (may_come t section) line (wrong out_of_range at)) (wrong ill_formed at)

abbrev pub declared : TextSoFar → ℕ → List ℕ → Read ℕ → Read TextSoFar
declared t section name (wrong number place) = wrong number place
declared t section name (right arity) = right (with_line t section (t.names ++ padded name) (arity ∷ []))

-- a declaration of a section whose first name has number `from`: a line at `at`, with its fields behind the keyword
abbrev pub declaration_line : TextSoFar → ℕ → ℕ → ℕ → List (List ℕ) → Read TextSoFar
declaration_line t section from at ss =
    two at ss
    (λ name arity. opens t section at (declared t section name (symbol_of t.names from (count t section) (at + declaring) name arity)))

-- "First the `pred` lines (name, arity), then `func` lines"
abbrev pub pred_line : TextSoFar → ℕ → List (List ℕ) → Read TextSoFar
pred_line t at ss = declaration_line t pred_section 0 at ss

abbrev pub func_line : TextSoFar → ℕ → List (List ℕ) → Read TextSoFar
func_line t at ss = declaration_line t func_section (count t pred_section) at ss
