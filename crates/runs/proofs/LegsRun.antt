-- A run of *Legs* of four steps, from the definitions, with its covering rows: the theorem is about something.
-- The second step's substitution is not most general, and puts a term that the program has no symbol for.
use Prim.Native.Nat.{ℕ, zero, suc, ◌≤◌}
use native.Mathlib.Omega.{arith}
use native.Mathlib.Decide.{ℕ_discrete}
use mathlib.Core.Path.{◌≡◌, refl}
use mathlib.Core.Logic.{inl, inr}
use mathlib.Core.List.Memᴰ
use mathlib.Core.List.{List, [], ◌∷◌}
use Rattle.terms.specs.Term.{Term, var, app, nil, cons, Subst, sub, comp, Occ}
use Rattle.terms.specs.Unifier.{MostGeneral}
use Rattle.marks.specs.Modes.{modes, GroundWhere}
use Rattle.terms.proofs.Masks.{has_below}
use Rattle.program.specs.Program.{here, there, Clause}
use Rattle.table.specs.Rules.{call, solution}
use Rattle.table.specs.Rounds.{Least}
use Rattle.table.proofs.Samples.{two, legs, legs_least}
use Rattle.runs.specs.Run.{Item, atom, end, InSight, Fresh, renamed, Finite, Step, put, leave, Run, start, step, Called, Solved}
use Rattle.runs.specs.Cover.{Covered, ByCall, BySolution}

abbrev b : Term
b = app 1 nil

-- a term with a variable, of a symbol that *Legs* does not have
abbrev strange : Term
strange = app 9 (cons (var 3) nil)

-- b, and then the same term for every other variable
abbrev b_then : Term → Subst
b_then t zero = b
b_then t (suc v) = t

pub b_then_ground : (t : Term) → GroundWhere 1 (b_then t)
b_then_ground t zero marked = tt
b_then_ground t (suc v) marked = let h = has_below 1 1 (suc v) (omega arith) marked in absurd (omega arith)

-- each step renames v to v + 1, since only variable 0 is in sight
abbrev up : ℕ → ℕ
up v = suc v

-- the first step: most general
abbrev first_binding : Subst
first_binding zero = var 0
first_binding (suc zero) = b
first_binding (suc (suc zero)) = var 0
first_binding (suc (suc (suc v))) = var (suc (suc (suc v)))

pub first_binding_finite : Finite first_binding
first_binding_finite = (3, beyond)
  where
    beyond : (v : ℕ) → 3 ≤ v → first_binding v ≡ var v
    beyond zero h = absurd (omega arith)
    beyond (suc zero) h = absurd (omega arith)
    beyond (suc (suc zero)) h = absurd (omega arith)
    beyond (suc (suc (suc v))) h = refl

-- the second step: not most general
abbrev second_binding : Subst
second_binding zero = strange
second_binding (suc zero) = strange
second_binding (suc (suc v)) = var (suc (suc v))

pub second_binding_finite : Finite second_binding
second_binding_finite = (2, beyond)
  where
    beyond : (v : ℕ) → 2 ≤ v → second_binding v ≡ var v
    beyond zero h = absurd (omega arith)
    beyond (suc zero) h = absurd (omega arith)
    beyond (suc (suc v)) h = refl

-- where variable 0 alone is in sight, the renaming is fresh
pub up_fresh : (c : Clause) (items : List Item) → ((v : ℕ) → InSight v items → v ≡ 0) → Fresh c up items
up_fresh c items only_zero = record { apart = λ v w _ _ e. omega arith; unseen = λ v _ seen. let e = only_zero (up v) seen in omega arith }

abbrev follow : Term → Term → Term
follow s t = two 0 s t

abbrev leg : Term → Term → Term
leg s t = two 1 s t

pub zero_in : (p v : ℕ) → Occ v (two p b (var 0)) → v ≡ 0
zero_in p v (inl x') = elim x' [ ]
zero_in p v (inr (inr x3)) = elim x3 [ ]
zero_in p v (inr (inl o)) = o

-- the goals in progress
abbrev goal_0 : List Item
goal_0 = atom 0 (follow b (var 0)) ∷ []

abbrev goal_1 : List Item
goal_1 = atom 1 (leg b (var 0)) ∷ end 0 (follow b (var 0)) ∷ []

abbrev goal_2 : List Item
goal_2 = end 1 (leg b strange) ∷ end 0 (follow b strange) ∷ []

abbrev goal_3 : List Item
goal_3 = end 0 (follow b strange) ∷ []

pub step_1 : Step legs goal_0 goal_1
unfolding ℕ_discrete
step_1 = put up first_binding here (up_fresh _ goal_0 seen) first_binding_finite refl
  where
    seen : (v : ℕ) → InSight v goal_0 → v ≡ 0
    seen v (inr x') = elim x' [ ]
    seen v (inl o) = zero_in 0 v o

pub step_2 : Step legs goal_1 goal_2
step_2 = put up second_binding (there (there here)) (up_fresh _ goal_1 seen) second_binding_finite refl
  where
    seen : (v : ℕ) → InSight v goal_1 → v ≡ 0
    seen v (inl o) = zero_in 1 v o
    seen v (inr (inr x'')) = elim x'' [ ]
    seen v (inr (inl o)) = zero_in 0 v o

-- the second step's substitution is not most general: no substitution takes `strange` back to a variable
pub second_not_most_general : MostGeneral (leg b (var 0)) (leg b (var 0)) second_binding (comp (renamed up) second_binding) → ⊥
second_not_most_general most =
    let (θ, on-atom, _) = most.general var var refl in
    let e : sub strange θ ≡ var 0 = on-atom 0 (inr (inl refl)) in
    let z : ◌≡◌ {A = ℕ} 0 1 = cc in
    omega arith

-- four steps lead from the goal to its end
pub run_0 : Run modes legs 1 0 goal_0
run_0 = start (b_then (var 0)) (b_then_ground (var 0))

pub run_1 : Run modes legs 1 1 goal_1
run_1 = step run_0 step_1

pub run_2 : Run modes legs 1 2 goal_2
run_2 = step run_1 step_2

pub run_3 : Run modes legs 1 3 goal_3
run_3 = step run_2 leave

pub run_4 : Run modes legs 1 4 []
run_4 = step run_3 leave

pub follow_covered : (t : Term) → Covered modes legs 0 1 (follow b t)
unfolding ℕ_discrete
follow_covered t = record { shape = follow (var 0) (var 1); numbered = here; terms = b_then t; reads = refl; holds = b_then_ground t }

pub leg_covered : (t : Term) → Covered modes legs 1 1 (leg b t)
unfolding ℕ_discrete
leg_covered t = record { shape = leg (var 0) (var 1); numbered = there here; terms = b_then t; reads = refl; holds = b_then_ground t }

-- the goal's call, by `call 0 0 ga`
pub called_0 : Called modes legs 1 0 0 (follow b (var 0)) × ByCall modes legs (Least modes legs 1) 0 (follow b (var 0))
called_0 = (([], run_0), (1, (legs_least (call 0 1)).1 (Memᴰ.head refl), follow_covered (var 0)))

-- the call of the body atom, by `call 1 1 ga`
pub called_1 : Called modes legs 1 1 1 (leg b (var 0)) × ByCall modes legs (Least modes legs 1) 1 (leg b (var 0))
called_1 = ((_, run_1), (1, (legs_least (call 1 1)).1 (Memᴰ.tail (Memᴰ.head refl)), leg_covered (var 0)))

-- its solution as it then reads, by `sol 2 1 ga`: no row with a ground second argument would do
pub solved_2 : Solved modes legs 1 2 1 (leg b strange) × BySolution modes legs (Least modes legs 1) 1 (leg b strange)
solved_2 = ((_, run_2), (1, (legs_least (solution 1 1)).1 (Memᴰ.tail (Memᴰ.tail (Memᴰ.tail (Memᴰ.tail (Memᴰ.head refl))))), leg_covered strange))

-- and the goal's, by `sol 3 0 ga`
pub solved_3 : Solved modes legs 1 3 0 (follow b strange) × BySolution modes legs (Least modes legs 1) 0 (follow b strange)
solved_3 = (
  (_, run_3),
  (
    1,
    (legs_least (solution 0 1)).1 (Memᴰ.tail (Memᴰ.tail (Memᴰ.tail (Memᴰ.tail (Memᴰ.tail (Memᴰ.tail (Memᴰ.head refl))))))),
    follow_covered strange,
  ),
)
