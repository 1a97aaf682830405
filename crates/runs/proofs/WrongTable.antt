-- A wrong table does not cover: *Late call* without the call row of p that marks nothing. Its one-step run calls p with two variables.
use Prim.Native.Nat.{ℕ, zero, suc, ◌≤◌}
use native.Mathlib.Omega.{arith}
use native.Mathlib.Decide.{ℕ_discrete}
use mathlib.Core.Path.{◌≡◌, refl}
use mathlib.Core.Logic.{inl, inr}
use mathlib.Core.List.{List, [], ◌∷◌, Memᴰ}
use Rattle.terms.specs.Term.{Term, var, app, nil, Subst}
use Rattle.terms.specs.Mask.{Has}
use Rattle.marks.specs.Modes.{modes}
use Rattle.marks.proofs.Modes.{modes_sound}
use Rattle.program.specs.Program.{here, there}
use Rattle.table.specs.Rules.{Row, call, cont, solution}
use Rattle.table.specs.Rounds.{Least}
use Rattle.table.proofs.Samples.{one, two, late, late_rows, late_least}
use Rattle.runs.specs.Run.{atom, end, InSight, Finite, Step, put, start, step, Called}
use Rattle.runs.specs.Cover.{CoversRuns}
use Rattle.runs.proofs.TableCovers.{covers_within, least_covers_runs}
use Rattle.runs.proofs.GroundCalls.{covered_ground}

-- the rows of *Late call* but `call 1 0`
abbrev pub wrong_rows : List (Row ℕ)
wrong_rows = call 0 1 ∷ cont 1 1 1 ∷ solution 1 0 ∷ call 1 1 ∷ cont 1 2 1 ∷ solution 1 1 ∷ solution 1 3 ∷ solution 0 1 ∷ []

abbrev pub wrong : Row ℕ → Type 0
wrong row = Memᴰ row wrong_rows

-- of the calls of p it has only one that marks variable 0
abbrev MarksFirst : Row ℕ → Type 0
MarksFirst (call zero M) = Unit {0}
MarksFirst (call (suc s) M) = Has M 0
MarksFirst (cont a b M) = Unit {0}
MarksFirst (solution s M) = Unit {0}

abbrev Every : List (Row ℕ) → Type 0
Every [] = Unit {0}
Every (row ∷ rows) = MarksFirst row × Every rows

pub every_row : (rows : List (Row ℕ)) → Every rows → (row : Row ℕ) → Memᴰ row rows → MarksFirst row
every_row [] all row x'' = elim x'' [ ]
every_row (r ∷ rows) all row (Memᴰ.head e) = rw e all.0
every_row (r ∷ rows) all row (Memᴰ.tail m) = every_row rows all.1 row m

pub wrong_marks_first : (M : ℕ) → wrong (call 1 M) → Has M 0
wrong_marks_first M m = every_row wrong_rows (tt, (tt, (tt, (refl, (tt, (tt, (tt, (tt, tt)))))))) (call 1 M) m

-- the goal `t(G0)` with a ground term
abbrev c : Term
c = app 7 nil

abbrev binding : Subst
binding zero = c
binding (suc v) = var (suc v)

pub binding_finite : Finite binding
binding_finite = (1, beyond)
  where
    beyond : (v : ℕ) → 1 ≤ v → binding v ≡ var v
    beyond zero h = absurd (omega arith)
    beyond (suc v) h = refl

-- nothing is in sight, so the clause stays as it is written
pub late_step : Step late (atom 0 (one 0 c) ∷ []) (atom 1 (two 1 (var 1) (var 2)) ∷ atom 1 (two 1 c (var 3)) ∷ end 0 (one 0 c) ∷ [])
unfolding ℕ_discrete
late_step = put (λ v. v) binding here (record { apart = λ v w _ _ e. e; unseen = λ v _ seen. unseen v seen }) binding_finite refl
  where
    unseen : (v : ℕ) → InSight v (atom 0 (one 0 c) ∷ []) → ⊥
    unseen v (inl (inl o)) = o
    unseen v (inl (inr o)) = o
    unseen v (inr o) = o

pub late_called : Called modes late 1 1 1 (two 1 (var 1) (var 2))
late_called = (_, step (start (λ _. c) (λ v _. tt)) late_step)

pub wrong_table_fails : CoversRuns modes late 1 wrong → ⊥
unfolding ℕ_discrete
wrong_table_fails covers =
    let (M, row, by) = covers.calls 1 1 (two 1 (var 1) (var 2)) late_called in
    covered_ground late 1 M (two 1 (var 1) (var 2)) (two 1 (var 0) (var 1)) (λ v. var (suc v)) 0 by (there here) refl (inl refl) (wrong_marks_first M row)

-- the right table covers
pub late_table_covers : CoversRuns modes late 1 (λ row. Memᴰ row late_rows)
unfolding ℕ_discrete
late_table_covers =
    covers_within modes late 1 (Least modes late 1) (λ row. Memᴰ row late_rows) (λ row. (late_least row).0) (least_covers_runs modes modes_sound late 1 refl)
