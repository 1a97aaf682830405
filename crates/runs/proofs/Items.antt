-- Goals in progress under a substitution, and what stands from a place of a list on.
use Prim.Native.Nat.{ℕ, zero, suc}
use mathlib.Core.Path.{◌≡◌, refl, ap, ap₂}
use mathlib.Core.List.{List, [], ◌∷◌, ◌++◌}
use lib.ListN.{length}
use Rattle.terms.specs.Term.{Term, Subst, sub, comp}
use Rattle.terms.proofs.Substs.{sub_comp}
use Rattle.program.specs.Program.{Nth, here, there, Program}
use Rattle.program.specs.Shapes.{shape_number}
use Rattle.runs.specs.Run.{Item, atom, end, apply, written}

-- `after` is what stands from place i of the list on
pub data From {A : Type 0} : List A → ℕ → List A → Type 0 where
  all : {l : List A} → From l zero l
  skip : {a : A} {l after : List A} {i : ℕ} → From l i after → From (a ∷ l) (suc i) after

pub from_nth : {A : Type 0} {l after : List A} {i : ℕ} {a : A} → From l i (a ∷ after) → Nth l i a
from_nth all = here
from_nth (skip f) = there (from_nth f)

pub from_next : {A : Type 0} {l after : List A} {i : ℕ} {a : A} → From l i (a ∷ after) → From l (suc i) after
from_next all = skip all
from_next (skip f) = skip (from_next f)

pub from_end : {A : Type 0} {l : List A} {i : ℕ} → From l i [] → i ≡ length l
from_end all = refl
from_end (skip f) = ap suc (from_end f)

-- a substitution goes into both parts of a goal in progress
pub apply_append : (xs ys : List Item) (θ : Subst) → apply (xs ++ ys) θ ≡ apply xs θ ++ apply ys θ
apply_append [] ys θ = refl
apply_append (atom s A ∷ xs) ys θ = ap (◌∷◌ (atom s (sub A θ))) (apply_append xs ys θ)
apply_append (end s A ∷ xs) ys θ = ap (◌∷◌ (end s (sub A θ))) (apply_append xs ys θ)

-- and into what was written under another
pub apply_written : (p : Program) (As : List Term) (σ θ : Subst) → apply (written p As σ) θ ≡ written p As (comp σ θ)
apply_written p [] σ θ = refl
apply_written p (A ∷ As) σ θ = ap₂ (λ B rest. atom (shape_number p A) B ∷ rest) (sub_comp A σ θ) (apply_written p As σ θ)
