-- The steps of the rules for the modes: each has one result where its two atoms unify, and none where they are apart.
use Prim.Native.Nat.{ℕ, suc}
use mathlib.Core.Path.{◌≡◌, ap, ◌∙◌}
use mathlib.Core.Logic.{◌⊎◌, inl, inr, ◌↔◌}
use Rattle.terms.specs.Term.{Term}
use Rattle.terms.specs.Unifier.{Apart}
use Rattle.marks.specs.Pass.{Pass}
use Rattle.marks.specs.Modes.{KeptTo, Renumbered, modes}
use Rattle.marks.proofs.Passing.{pass_unique}
use Rattle.marks.proofs.Modes.{kept_unique, renumbered_unique}
use Rattle.program.specs.Program.{Nth, Clause, Program}
use Rattle.program.specs.Shapes.{shapes, shape_number, number, Listed}
use Rattle.program.proofs.ShapeLaws.{nth_same}
use Rattle.table.specs.Rules.{Row, call, cont}
use Rattle.table.specs.Keys.{row_key}
use Rattle.table.specs.Steps.{Opens, opens, GoesOn, goes_call, goes_cont}
use Rattle.table.specs.RoundKeys.{Keyed}

-- nothing passes between atoms that are apart
pub pass_not_apart : {A B : Term} {M N R : ℕ} → Pass A M B N R → Apart A B → ⊥
pass_not_apart passed apart = apart passed.α passed.β passed.unifier.unifies

module _ (p : Program) {k s : ℕ} {c : Clause} {S : Term} (hc : Nth p.clauses k c) (hs : Nth (shapes p) s S) where
  -- rule 1
  pub opens_one : {M N : ℕ} → Pass S M c.head 0 N → (N' : ℕ) → Opens modes p k s M N' ↔ (N' ≡ N)
  opens_one {M} {N} passed N' = (to, λ e. rw e (opens hc hs passed))
    where
      to : Opens modes p k s M N' → N' ≡ N
      to (opens hc' hs' passed') = pass_unique (rw (nth_same hc' hc, nth_same hs' hs) at passed') passed

  pub opens_apart : Apart S c.head → {M N : ℕ} → Opens modes p k s M N → ⊥
  opens_apart apart (opens hc' hs' passed) = pass_not_apart (rw (nth_same hc' hc, nth_same hs' hs) at passed) apart

module _ (p : Program) {k i : ℕ} {c : Clause} {A : Term} (hc : Nth p.clauses k c) (hA : Nth c.body i A) where
  -- it is the body atom of the clause whichever way it is found
  same_atom : {c' : Clause} {A' : Term} → Nth p.clauses k c' → Nth c'.body i A' → A' ≡ A
  same_atom hc' hA' = nth_same (rw (nth_same hc' hc) at hA') hA

  -- a call row and a cont row
  pub goes_two : (N R R' : ℕ) → Renumbered A (number A) N R → KeptTo (Listed c i) N R'
      → (key : ℕ) → Keyed p (GoesOn modes p k i N) key ↔ ((key ≡ row_key p (call (shape_number p A) R)) ⊎ (key ≡ row_key p (cont (suc k) (suc i) R')))
  goes_two N R R' numbered kept key = (λ (row, h, e). to h e, from)
    where
      same_call : {A' : Term} {Q : ℕ} → A' ≡ A → Q ≡ R → call (shape_number p A') Q ≡ call (shape_number p A) R
      same_call d e = rw (d, e)

      to : {row : Row ℕ} → GoesOn modes p k i N row → key ≡ row_key p row → (key ≡ row_key p (call (shape_number p A) R)) ⊎ (key ≡ row_key p (cont (suc k) (suc i) R'))
      to (goes_call {A = A'} {R = Q} hc' hA' numbered') e =
          let d = same_atom hc' hA' in
          inl (e ∙ ap (row_key p) (same_call d (renumbered_unique A (number A) N Q R (rw d at numbered') numbered)))
      to (goes_cont {R = Q} hc' hA' kept') e = inr (e ∙ ap (λ (M : ℕ). row_key p (cont (suc k) (suc i) M)) (kept_unique (Listed c i) N Q R' (rw (nth_same hc' hc) at kept') kept))

      from : (key ≡ row_key p (call (shape_number p A) R)) ⊎ (key ≡ row_key p (cont (suc k) (suc i) R')) → Keyed p (GoesOn modes p k i N) key
      from (inl e) = (call (shape_number p A) R, goes_call hc hA numbered, e)
      from (inr e) = (cont (suc k) (suc i) R', goes_cont hc hA kept, e)
