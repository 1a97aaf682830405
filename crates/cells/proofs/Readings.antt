-- What is read is either wrong or right; and what an answer with a fault came from.
use Prim.Native.Nat.{ℕ}
use native.Mathlib.Omega.{arith}
use mathlib.Core.Path.{◌≡◌, refl, ap}
use Rattle.std.specs.Prelude.{Option, Some, None, Result, Ok, Err, MatchResult, IsErrAnd}
use Rattle.std.specs.Option.{ok_or}
use Rattle.cells.specs.TextSoFar.{Read, wrong, right}

pub wrong_or_right : {A : Type 0} {number place : ℕ} {a : A} (x : Read A) → x ≡ wrong number place → x ≡ right a → ⊥
wrong_or_right x d e = let z : ◌≡◌ {A = ℕ} 0 1 = cc in omega arith

-- what `map_err` says, from its answer back
pub mapped_ok : {A E D : Type 0} (P : E → D → Type 0) (r : Result A E) (m : Result A D) (a : A) → MatchResult r (λ x. m ≡ Ok x) (λ e. IsErrAnd m (P e)) → m ≡ Ok a → r ≡ Ok a
mapped_ok P (Ok x) m a h e = let same : x ≡ a = cc in ap Ok same
mapped_ok P (Err e') m a h e = absurd (rw e at h)

pub mapped_err : {A E D : Type 0} (P : E → D → Type 0) (f : E → D) → ((e : E) (d : D) → P e d → d ≡ f e) → (r : Result A E) (m : Result A D) (d : D)
    → MatchResult r (λ x. m ≡ Ok x) (λ e. IsErrAnd m (P e)) → m ≡ Err d → (e : E) × (r ≡ Err e) × (d ≡ f e)
mapped_err P f gives (Ok x) m d h e = absurd (let z : ◌≡◌ {A = ℕ} 0 1 = cc in omega arith)
mapped_err P f gives (Err e') m d h e = (e', refl, gives e' d (rw e at h))

-- what `ok_or` says, from its answer back
pub present : {A E : Type 0} (o : Option A) (e : E) (a : A) → ok_or o e ≡ Ok a → o ≡ Some a
present (Some x) e a q = let same : x ≡ a = cc in ap Some same
present None e a q = absurd (let z : ◌≡◌ {A = ℕ} 0 1 = cc in omega arith)

pub missing : {A E : Type 0} (o : Option A) (e d : E) → ok_or o e ≡ Err d → (o ≡ None) × (d ≡ e)
missing (Some x) e d q = absurd (let z : ◌≡◌ {A = ℕ} 0 1 = cc in omega arith)
missing None e d q = (refl, cc)
