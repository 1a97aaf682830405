-- Where the words are cut: a place before a part, the place behind it, and the part itself.
use Prim.Native.Nat.{ℕ, suc, ◌+◌, ◌-◌, ◌≤◌, ◌<◌}
use native.Mathlib.Omega.{arith}
use mathlib.Core.Path.{◌≡◌, refl, sym, ap, ◌∙◌}
use mathlib.Core.List.{List, [], ◌∷◌, ◌++◌}
use lib.ListN.{length, get_or, take, drop, length-append, length-drop}
use lib.Seq.{drop-drop, drop_at, take_at, get_or-drop}
use Rattle.program.specs.Program.{Nth, here, there}
use Rattle.program.specs.Within.{Each, more}

-- a part between two places, as `&words[at..at + n]` has it
pub middle_part : (words : List ℕ) (at n : ℕ) → take (at + n - at) (drop at words) ≡ take n (drop at words)
middle_part words at n = let e : at + n - at ≡ n = omega arith in ap (λ (k : ℕ). take k (drop at words)) e

module _ (words : List ℕ) (at : ℕ) (part rest : List ℕ) (cut : drop at words ≡ part ++ rest) where
  -- the part is within the words, unless nothing is left
  pub cut_within : at ≤ length words → at + length part ≤ length words
  cut_within h = let e = ap length cut in omega (arith, length-drop at words, length-append part rest)

  -- behind the part stands the rest
  pub cut_behind : drop (at + length part) words ≡ rest
  cut_behind = sym (drop-drop (length part) at words) ∙ ap (drop (length part)) cut ∙ drop_at part rest (length part) refl

  pub cut_part : take (length part) (drop at words) ≡ part
  cut_part = ap (take (length part)) cut ∙ take_at part rest (length part) refl

module _ (words : List ℕ) (at w : ℕ) (rest : List ℕ) (cut : drop at words ≡ w ∷ rest) where
  -- a word stands at the place
  pub word_within : at < length words
  word_within = let e = ap length cut in omega (arith, length-drop at words)

  pub word_at : get_or words at 0 ≡ w
  word_at = let e : at ≡ at + 0 = omega arith in ap (λ (k : ℕ). get_or words k 0) e ∙ sym (get_or-drop at words 0 0) ∙ ap (λ (l : List ℕ). get_or l 0 0) cut

  pub word_behind : drop (at + 1) words ≡ rest
  word_behind = sym (drop-drop 1 at words) ∙ ap (drop 1) cut

-- what stands at a place of a list, and the list from there on
pub nth_drop : {A : Type 0} {l : List A} {n : ℕ} {a : A} → Nth l n a → drop n l ≡ a ∷ drop (suc n) l
nth_drop here = refl
nth_drop (there h) = nth_drop h

pub nth_take : {A : Type 0} {l : List A} {n : ℕ} {a : A} → Nth l n a → take (suc n) l ≡ take n l ++ (a ∷ [])
nth_take here = refl
nth_take {l = b ∷ l} (there h) = ap (◌∷◌ b) (nth_take h)

pub each_nth : {A : Type 0} {P : A → Type 0} {l : List A} {n : ℕ} {a : A} → Each P l → Nth l n a → P a
each_nth {A = A} {P = P} {n = n} {a = a} Rattle.program.specs.Within.none x3 = elim x3 [ ]
each_nth (more p ps) here = p
each_nth (more p ps) (there h) = each_nth ps h
