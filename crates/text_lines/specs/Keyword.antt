-- The keywords that lines begin with.
use Rattle.std.specs.Prelude.{ℕ, cond, List, [], ◌∷◌}
use Rattle.text.specs.Name.{same}
use Rattle.text_lines.specs.declared.keyword.Kind.{Kind}
use Rattle.text_lines.specs.declared.keyword.Kind.TheVariants.{Pred, Func, Clause, Query, Other}

abbrev pub pred : List ℕ
pred = 112 ∷ 114 ∷ 101 ∷ 100 ∷ []

abbrev pub func : List ℕ
func = 102 ∷ 117 ∷ 110 ∷ 99 ∷ []

abbrev pub clause : List ℕ
clause = 99 ∷ 108 ∷ 97 ∷ 117 ∷ 115 ∷ 101 ∷ []

abbrev pub query : List ℕ
query = 113 ∷ 117 ∷ 101 ∷ 114 ∷ 121 ∷ []

-- "First the `pred` lines (name, arity), then `func` lines, then `clause` lines, then one `query` line, last."
abbrev pub kind_of : List ℕ → Kind
kind_of s =
    cond (same s pred) Pred (cond (same s func) Func (cond (same s clause) Clause (cond (same s query) Query Other)))
