-- The computed rounds on document 01's samples: *Legs* and *Late call*, each by reflexivity.
use Prim.Native.Nat.{ℕ}
use native.Mathlib.Decide.{ℕ_discrete}
use mathlib.Core.Path.{◌≡◌, refl, sym, ◌∙◌}
use mathlib.Core.Logic.{◌↔◌}
use mathlib.Core.List.{List, [], ◌∷◌, Memᴰ}
use Rattle.terms.specs.Term.{Term, var, app, nil, cons}
use Rattle.marks.specs.Modes.{modes}
use Rattle.program.specs.Program.{Program}
use Rattle.program.specs.Shapes.{shapes}
use Rattle.program.proofs.ListLaws.{listed_decided}
use Rattle.table.specs.Rules.{Row, call, cont, solution}
use Rattle.table.specs.Rounds.{Least}
use Rattle.table.proofs.Computed.{rows_at}
use Rattle.table.proofs.ComputedLaws.{computed_least}
use Rattle.table.proofs.ModesComputed.{modes_lists}

abbrev pub one : ℕ → Term → Term
one p s = app p (cons s nil)

abbrev pub two : ℕ → Term → Term → Term
two p s t = app p (cons s (cons t nil))

-- `follow(V0,V1) :- leg(V0,V1)`, `leg(a,b)`, `leg(b,V0)`, goal `follow(G0,V1)`
abbrev pub legs : Program
legs = record {
  predicates = 2 ∷ 2 ∷ [];
  functions = 0 ∷ 0 ∷ [];
  clauses =
      record { head = two 0 (var 0) (var 1); body = two 1 (var 0) (var 1) ∷ [] }
      ∷ record { head = two 1 (app 0 nil) (app 1 nil); body = [] }
      ∷ record { head = two 1 (app 1 nil) (var 0); body = [] }
      ∷ [];
  goal = two 0 (var 0) (var 1);
  grounded = 1;
}

pub legs_shapes : shapes legs ≡ two 0 (var 0) (var 1) ∷ two 1 (var 0) (var 1) ∷ []
unfolding ℕ_discrete
legs_shapes = refl

-- "*Legs*": three rounds, and a fourth adds nothing
abbrev pub legs_rows : List (Row ℕ)
legs_rows = call 0 1 ∷ call 1 1 ∷ cont 1 1 1 ∷ solution 1 3 ∷ solution 1 1 ∷ solution 0 3 ∷ solution 0 1 ∷ []

pub legs_round_3 : rows_at modes modes_lists legs 1 3 ≡ legs_rows
unfolding ℕ_discrete modes_lists listed_decided
legs_round_3 = refl

pub legs_round_4 : rows_at modes modes_lists legs 1 4 ≡ legs_rows
unfolding ℕ_discrete modes_lists listed_decided
legs_round_4 = refl

pub legs_least : (row : Row ℕ) → Least modes legs 1 row ↔ Memᴰ row legs_rows
legs_least row = rw legs_round_3 at (computed_least modes modes_lists legs 1 3 (legs_round_4 ∙ sym legs_round_3) row)

-- `t(V0) :- p(V1,V2), p(V0,V3)`, `p(V0,V0)`, goal `t(G0)`
abbrev pub late : Program
late = record {
  predicates = 1 ∷ 2 ∷ [];
  functions = [];
  clauses =
      record { head = one 0 (var 0); body = two 1 (var 1) (var 2) ∷ two 1 (var 0) (var 3) ∷ [] }
      ∷ record { head = two 1 (var 0) (var 0); body = [] }
      ∷ [];
  goal = one 0 (var 0);
  grounded = 1;
}

-- "*Late call*": "nine rows, solutions of p with masks 0 (round 2), 1 and 3 (round 4)"
abbrev pub late_rows : List (Row ℕ)
late_rows =
    call 0 1 ∷ call 1 0 ∷ cont 1 1 1 ∷ solution 1 0 ∷ call 1 1 ∷ cont 1 2 1 ∷ solution 1 1 ∷ solution 1 3 ∷ solution 0 1 ∷ []

pub late_round_2 : rows_at modes modes_lists late 1 2 ≡ call 0 1 ∷ call 1 0 ∷ cont 1 1 1 ∷ solution 1 0 ∷ []
unfolding ℕ_discrete modes_lists listed_decided
late_round_2 = refl

pub late_round_4 : rows_at modes modes_lists late 1 4 ≡ late_rows
unfolding ℕ_discrete modes_lists listed_decided
late_round_4 = refl

pub late_round_5 : rows_at modes modes_lists late 1 5 ≡ late_rows
unfolding ℕ_discrete modes_lists listed_decided
late_round_5 = refl

pub late_least : (row : Row ℕ) → Least modes late 1 row ↔ Memᴰ row late_rows
late_least row = rw late_round_4 at (computed_least modes modes_lists late 1 4 (late_round_5 ∙ sym late_round_4) row)
