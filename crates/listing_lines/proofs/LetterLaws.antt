-- The letters of a row: the tests are those of `Occ` and `Listed`, so that a set of the same variables has the same letters; none for the empty set alone.
use Prim.Native.Nat.{ℕ, zero, suc, ◌<◌, ◌^◌}
use native.Mathlib.Omega.{arith}
use mathlib.Core.Path.{◌≡◌, refl, ap}
use mathlib.Core.Bool.{Bool, true, false, cond, ◌&&◌, ◌||◌}
use mathlib.Core.Logic.Iff
use mathlib.Core.Logic.{◌⊎◌, inl, inr, ◌↔◌}
use mathlib.Core.List.{List, [], ◌∷◌, ◌++◌}
use lib.ListN.{take, drop}
use lib.Dec.{T, eqb→eq, eqb_refl}
use borrow.Author.Tests.{ne_eqb}
use native.Mathlib.Decide.{ℕ_discrete}
use Rattle.terms.specs.Term.{Term, Terms, var, app, nil, cons, Occ, Occs}
use Rattle.terms.specs.Cells.{variables}
use Rattle.terms.specs.Mask.{mark_of, grounded, Has, Marks}
use Rattle.terms.proofs.Masks.{has_none, has_below, same_marks}
use Rattle.program.specs.Program.{Clause}
use Rattle.program.specs.Shapes.{In, Listed}
use Rattle.listing_lines.specs.Letters.{occurs_in, occurs_among, occurs_in_one, is_listed, dash, letter, letters_below, or_none, letters_of}
use Rattle.listing_lines.specs.Set.{in_set}

either : {A B : Type 0} (a b : Bool) → T a ↔ A → T b ↔ B → T (a || b) ↔ A ⊎ B
either true b h k = (λ t. inl (h.0 t), λ s. tt)
either {A} {B} false b h k = (λ t. inr (k.0 t), second)
  where
    second : A ⊎ B → T b
    second (inl x) = absurd (h.1 x)
    second (inr y) = k.1 y

both : {A B : Type 0} (a b : Bool) → T a ↔ A → T b ↔ B → T (a && b) ↔ A × B
both true b h k = (λ t. (h.0 tt, k.0 t), λ (x, y). k.1 y)
both false b h k = (λ t. absurd t, λ (x, y). h.1 x)

-- tests that say the same are the same
pub same_test : (a b : Bool) → T a ↔ T b → a ≡ b
same_test true true h = refl
same_test false false h = refl
same_test true false h = absurd (h.0 tt)
same_test false true h = absurd (h.1 tt)

mutual
  pub occurs_in_law : (t : Term) (v : ℕ) → T (occurs_in t v) ↔ Occ v t
  occurs_in_law (var x) v = (eqb→eq v x, λ e. rw e (eqb_refl x))
  occurs_in_law (app f ts) v = occurs_among_law ts v

  pub occurs_among_law : (ts : Terms) (v : ℕ) → T (occurs_among ts v) ↔ Occs v ts
  occurs_among_law nil v = (λ t. t, λ o. o)
  occurs_among_law (cons t ts) v = either (occurs_in t v) (occurs_among ts v) (occurs_in_law t v) (occurs_among_law ts v)

pub occurs_in_one_law : (ts : List Term) (v : ℕ) → T (occurs_in_one ts v) ↔ In v ts
occurs_in_one_law [] v = (λ t. t, λ o. o)
occurs_in_one_law (t ∷ ts) v = either (occurs_in t v) (occurs_in_one ts v) (occurs_in_law t v) (occurs_in_one_law ts v)

pub is_listed_law : (c : Clause) (i v : ℕ) → T (is_listed c i v) ↔ Listed c i v
is_listed_law c i v =
    both (occurs_in_one (c.head ∷ take i c.body) v) (occurs_in_one (c.head ∷ drop i c.body) v)
    (occurs_in_one_law (c.head ∷ take i c.body) v) (occurs_in_one_law (c.head ∷ drop i c.body) v)

pub in_set_law : (set v : ℕ) → T (in_set set v) ↔ Has set v
in_set_law set v = (eqb→eq (mark_of set v) grounded, λ e. rw e tt)

letters_same : (has has' : ℕ → Bool) (mask n : ℕ) → ((v : ℕ) → has v ≡ has' v) → letters_below has mask n ≡ letters_below has' mask n
letters_same has has' mask zero h = refl
letters_same has has' mask (suc n) h = rw (letters_same has has' mask n h, h n)

-- a set of the variables that a test finds has the letters of the test
pub set_letters : {P : ℕ → Type 0} (test : ℕ → Bool) (set mask : ℕ) → ((v : ℕ) → T (test v) ↔ P v) → Marks P set → letters_of (in_set set) mask ≡ letters_of test mask
set_letters test set mask h marks =
    ap or_none (letters_same (in_set set) test mask variables (λ v. same_test (in_set set v) (test v) (Iff.trans (in_set_law set v) (Iff.trans (marks v) (Iff.symm (h v))))))

-- "`-` for none": the empty set has no letters
no_letters : (mask n : ℕ) → letters_below (in_set 0) mask n ≡ []
no_letters mask zero = refl
no_letters mask (suc n) = rw (no_letters mask n, ne_eqb (mark_of 0 n) grounded (has_none n))

pub empty_letters : (set mask : ℕ) → set ≡ 0 → letters_of (in_set set) mask ≡ dash ∷ []
empty_letters set mask e = rw e (ap or_none (no_letters mask variables))

none_of : {A : Type 0} (a b : List A) → a ++ b ≡ [] → (a ≡ []) × (b ≡ [])
none_of [] b e = (refl, e)
none_of (x ∷ a) b e = absurd (let z : ◌≡◌ {A = ℕ} 0 1 = cc in omega arith)

none_below : (has : ℕ → Bool) (mask n : ℕ) → letters_below has mask n ≡ [] → (v : ℕ) → v < n → T (has v) → ⊥
none_below has mask zero e v l t = omega arith
none_below has mask (suc n) e v l t = at (ℕ_discrete v n) (none_of _ _ e) (λ e l. none_below has mask n e v l t)
  where
    last : (b : Bool) → cond b (letter mask n ∷ []) [] ≡ [] → T b → ⊥
    last true e t = let z : ◌≡◌ {A = ℕ} 0 1 = cc in omega arith
    last false e t = t

    at : Dec (v ≡ n) → (letters_below has mask n ≡ []) × (cond (has n) (letter mask n ∷ []) [] ≡ []) → (letters_below has mask n ≡ [] → v < n → ⊥) → ⊥
    at (yes d) (_, e) before = last (has n) e (rw d at t)
    at (no d) (e, _) before = before e (omega arith)

-- and any other set has some
pub some_letters : (set mask : ℕ) → set < 2 ^ variables → (set ≡ 0 → ⊥) → letters_of (in_set set) mask ≡ letters_below (in_set set) mask variables
some_letters set mask small some = kept (letters_below (in_set set) mask variables) (λ e. some (empty e))
  where
    kept : (l : List ℕ) → (l ≡ [] → ⊥) → or_none l ≡ l
    kept [] h = absurd (h refl)
    kept (b ∷ bs) h = refl

    empty : letters_below (in_set set) mask variables ≡ [] → set ≡ 0
    empty e = same_marks set 0 (λ v. (λ h. absurd (none_below (in_set set) mask variables e v (has_below variables set v small h) ((in_set_law set v).1 h)), λ h. absurd (has_none v h)))
