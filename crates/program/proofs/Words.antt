-- Words that are read one by one: what is handed out are the words themselves.
use Prim.Native.Nat.{ℕ, zero, suc, ◌+◌, ◌-◌, ◌≤◌}
use native.Mathlib.Omega.{arith}
use mathlib.Core.Path.{◌≡◌, refl, ap, ◌∙◌}
use mathlib.Core.Bool.{Bool, true, false}
use mathlib.Core.List.{List, [], ◌∷◌, ◌++◌}
use lib.ListN.{length, take, drop, length-append, length-drop}
use lib.Seq.{take_at}
use lib.Dec.{leb}
use borrow.Author.Tests.{leb-true, le-leb}
use Rattle.terms.specs.Cells.{pick}
use Rattle.program.specs.Within.{Each, none, more}
use Rattle.program.specs.Reading.{Decoded, wrong, right, next, bounded, several}

-- what two parts come to, come to one after the other
pub next_right : {A B : Type 0} (r : Decoded A) (f : A → List ℕ → Decoded B) (b : B) (rest : List ℕ) → next r f ≡ right b rest
    → (a : A) × (mid : List ℕ) × (r ≡ right a mid) × (f a mid ≡ right b rest)
next_right (wrong number ws) f b rest e = let z : ◌≡◌ {A = ℕ} 0 1 = cc in absurd (omega arith)
next_right (right a mid) f b rest e = (a, mid, refl, e)

-- a word that is read stands first, and is within its bounds
pub record Bounded (low high w : ℕ) (ws rest : List ℕ) : Type 0 where
  pub is : ws ≡ w ∷ rest
  pub least : low ≤ w
  pub most : w ≤ high

pub bounded_read : (number low high w : ℕ) (ws rest : List ℕ) → bounded number low high ws ≡ right w rest → Bounded low high w ws rest
unfolding bounded
bounded_read number low high w [] rest e = let z : ◌≡◌ {A = ℕ} 0 1 = cc in absurd (omega arith)
bounded_read number low high w (x ∷ xs) rest e = by (leb low x) refl e
  where
    top : low ≤ x → (b : Bool) → leb x high ≡ b → pick b (right x xs) (wrong number (x ∷ xs)) ≡ right w rest → Bounded low high w (x ∷ xs) rest
    top l true t e =
        let same : x ≡ w = cc in
        let after : xs ≡ rest = cc in
        record { is = cc; least = rw (← same) l; most = rw (← same) (leb-true _ _ t) }
    top l false t e = let z : ◌≡◌ {A = ℕ} 0 1 = cc in absurd (omega arith)

    by : (b : Bool) → leb low x ≡ b → pick b (pick (leb x high) (right x xs) (wrong number (x ∷ xs))) (wrong number (x ∷ xs)) ≡ right w rest
        → Bounded low high w (x ∷ xs) rest
    by true t e = top (leb-true _ _ t) (leb x high) refl e
    by false t e = let z : ◌≡◌ {A = ℕ} 0 1 = cc in absurd (omega arith)

pub read_bounded : (number low high w : ℕ) (rest : List ℕ) → low ≤ w → w ≤ high → bounded number low high (w ∷ rest) ≡ right w rest
unfolding bounded
read_bounded number low high w rest l h = rw (le-leb _ _ l, le-leb _ _ h)

-- words that are read one after another stand there, each within its bound
pub record ReadWords (high n : ℕ) (xs ws rest : List ℕ) : Type 0 where
  pub are : ws ≡ xs ++ rest
  pub count : length xs ≡ n
  pub each : Each (λ w. w ≤ high) xs

words_more : (high n w : ℕ) (xs ys ws ws' zs rest : List ℕ) → Bounded 0 high w ws ws' → ReadWords high n ys ws' zs → right (w ∷ ys) zs ≡ right xs rest
    → ReadWords high (suc n) xs ws rest
words_more high n w xs ys ws ws' zs rest first others e =
    let same : w ∷ ys ≡ xs = cc in
    let after : zs ≡ rest = cc in
    rw (← same, ← after)
    (record { are = first.is ∙ ap (λ (l : List ℕ). w ∷ l) others.are; count = ap suc others.count; each = more first.most others.each })

pub several_read : (number high n : ℕ) (xs ws rest : List ℕ) → several (bounded number 0 high) n ws ≡ right xs rest → ReadWords high n xs ws rest
unfolding several
several_read number high zero xs ws rest e =
    let same : [] ≡ xs = cc in
    let after : ws ≡ rest = cc in
    rw (← same) (record { are = after; count = refl; each = none })
several_read number high (suc n) xs ws rest e =
    let one = next_right (bounded number 0 high ws) (λ w ws'. next (several (bounded number 0 high) n ws') (λ ys zs. right (w ∷ ys) zs)) xs rest e in
    let two = next_right (several (bounded number 0 high) n one.1) (λ ys zs. right (one.0 ∷ ys) zs) xs rest one.3 in
    words_more high n one.0 xs two.0 ws one.1 two.1 rest
    (bounded_read number 0 high one.0 ws one.1 one.2)
    (several_read number high n two.0 one.1 two.1 two.2)
    two.3

pub read_several : (number high : ℕ) (xs rest : List ℕ) → Each (λ w. w ≤ high) xs
    → several (bounded number 0 high) (length xs) (xs ++ rest) ≡ right xs rest
unfolding several
read_several number high [] rest none = refl
read_several number high (x ∷ xs) rest (more h each) =
    rw (read_bounded number 0 high x (xs ++ rest) (omega arith) h) (rw (read_several number high xs rest each))

-- words between two places of a list
pub part_between : (words xs : List ℕ) (from to : ℕ) → from ≤ length words → to ≤ length words → drop from words ≡ xs ++ drop to words
    → (from ≤ to) × (take (to - from) (drop from words) ≡ xs)
part_between words xs from to h l e =
    let sizes : length words - from ≡ length xs + (length words - to) = rw (← length-drop from words, ← length-drop to words) (ap length e ∙ length-append xs (drop to words)) in
    let size : length xs ≡ to - from = omega arith in
    (omega arith, rw e (take_at xs (drop to words) (to - from) size))
