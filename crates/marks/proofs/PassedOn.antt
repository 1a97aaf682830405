-- Marks passed on the sets that unification leaves are marks passed through a most general unifier, in both directions.
use Prim.Native.Nat.{ℕ, ◌+◌}
use native.Mathlib.Nat.{zero-add}
use mathlib.Core.Path.{sym}
use mathlib.Core.Logic.{◌↔◌, ⊎_map}
use mathlib.Core.List.{List}
use lib.ListN.{get_or}
use Rattle.terms.specs.Term.{Term, Subst, Occ, All}
use Rattle.terms.specs.Cells.{variables}
use Rattle.terms.specs.Unifier.{MostGeneral}
use Rattle.terms.specs.Unified.{Sets}
use Rattle.terms.specs.Mask.{Has, Marks}
use Rattle.terms.proofs.Substs.{all_occ, occ_all}
use Rattle.terms.proofs.Masks.{has_below, marks_for}
use Rattle.marks.specs.Pass.{Known, Marked, Pass}
use Rattle.marks.specs.Passing.{VariablesOf, StandAt, KnownIn, AllKnownIn, MarkedIn}

-- a most general unifier of A and B is one of B and A
pub most_general_symmetric : {A B : Term} {α β : Subst} → MostGeneral A B α β → MostGeneral B A β α
most_general_symmetric u =
    record {
      unifies = sym u.unifies;
      general = λ β' α' e. let θ = u.general α' β' (sym e) in (θ.0, θ.2, θ.1);
    }

pub first_stands : {α β : Subst} {sets : List ℕ} → Sets α β sets → StandAt α sets 0
first_stands s = record { stands = λ v l. rw zero-add (s.first v l) }

pub second_stands : {α β : Subst} {sets : List ℕ} → Sets α β sets → StandAt β sets variables
second_stands s = record { stands = s.second }

-- a variable of the atom has its set
set_of : {A : Term} {σ : Subst} {sets : List ℕ} {base P : ℕ} → StandAt σ sets base → VariablesOf A P → (v : ℕ) → Has P v
    → Marks (λ z. Occ z (σ v)) (get_or sets (base + v) 0)
set_of {P = P} stands vars v h = stands.stands v (has_below variables P v vars.small h)

module _ {A B : Term} {α β : Subst} {sets : List ℕ} {from P to Q : ℕ} (M N : ℕ) (stands : StandAt α sets from) (vars : VariablesOf A P)
    (stands' : StandAt β sets to) (vars' : VariablesOf B Q) where
  known_same : (z : ℕ) → KnownIn sets from M P z ↔ Known A M α z
  known_same z = (
    λ k. (k.0, (vars.marked k.0).0 k.2, k.1, (set_of stands vars k.0 k.2 z).0 k.3),
    λ k. let p = (vars.marked k.0).1 k.1 in (k.0, k.2, p, (set_of stands vars k.0 p z).1 k.3),
  )

  pub marked_same : (y : ℕ) → MarkedIn sets from M P to N Q y ↔ Marked A M B N α β y
  marked_same y = (⊎_map (λ b. b) out, ⊎_map (λ b. b) back)
    where
      out : Has Q y × AllKnownIn sets from M P to y → Occ y B × All (Known A M α) (β y)
      out h = ((vars'.marked y).0 h.0, occ_all (Known A M α) (β y) (λ z o. (known_same z).0 (h.1 z ((set_of stands' vars' y h.0 z).1 o))))

      back : Occ y B × All (Known A M α) (β y) → Has Q y × AllKnownIn sets from M P to y
      back h =
          let q = (vars'.marked y).1 h.0 in
          (q, λ z b. (known_same z).1 (all_occ (Known A M α) (β y) h.1 z ((set_of stands' vars' y q z).0 b)))

  pub passed_on_passes : {R : ℕ} → MostGeneral A B α β → Marks (MarkedIn sets from M P to N Q) R → Pass A M B N R
  passed_on_passes {R} u r = record { α = α; β = β; unifier = u; result = marks_for R marked_same r }

-- the sets of the two atoms that were unified: marks pass from the first to the second, and from the second to the first
module _ {A B : Term} {α β : Subst} {sets : List ℕ} {P Q : ℕ} (M N R : ℕ) (u : MostGeneral A B α β) (s : Sets α β sets)
    (vars : VariablesOf A P) (vars' : VariablesOf B Q) where
  pub first_to_second : Marks (MarkedIn sets 0 M P variables N Q) R → Pass A M B N R
  first_to_second r = passed_on_passes M N (first_stands s) vars (second_stands s) vars' u r

  pub second_to_first : Marks (MarkedIn sets variables N Q 0 M P) R → Pass B N A M R
  second_to_first r = passed_on_passes N M (second_stands s) vars' (first_stands s) vars (most_general_symmetric u) r
