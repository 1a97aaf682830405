-- A set of masks after its use: the words that had marks are cleared, and so the set is empty again.
use Prim.Native.Nat.{ℕ, ◌+◌, ◌-◌, ◌*◌, ◌/◌, ◌%◌, ◌^◌, ◌≤◌, ◌<◌}
use native.Mathlib.Omega.{arith}
use native.Mathlib.Nat.{one-mul, mod-eq_of_lt}
use native.Mathlib.Decide.{dec_lt}
use mathlib.Core.Path.{◌≡◌, sym, ◌∙◌}
use mathlib.Core.List.{List, ◌++◌}
use lib.ListN.{length, get_or, drop, replicate, length-replicate, length-append, length-drop, get_or-replicate, get_or-append}
use lib.Seq.{ext_get_or, get_or-append-add, get_or-drop}
use lib.Pow.{pow_mono}
use Rattle.terms.specs.Mask.{Has}
use Rattle.terms.proofs.Masks.{has_none, has_below, same_marks}
use Rattle.program.specs.Limits.{masks}
use Rattle.rows.specs.MaskSet.{set_words, InSet}

-- how many words the marks of so many variables take
pub marks_shifted : (v : ℕ) → v ≤ 16 → (1 * 2 ^ v % 18446744073709551616 ≡ 2 ^ v) × (2 ^ v ≤ 65536)
marks_shifted v l =
    let m : 2 ^ v ≤ 2 ^ 16 = pow_mono l in
    (rw one-mul (mod-eq_of_lt (omega arith)), m)

module _ (set : List ℕ) (n : ℕ) (size : length set ≡ set_words) (l : n ≤ set_words) (small : (v : ℕ) → get_or set v 0 < masks)
    (below : (q : ℕ) → InSet set q → q / 16 < n) where
  -- a word from n on has no bit
  word_empty : (i : ℕ) → n ≤ i → get_or set i 0 ≡ 0
  word_empty i h =
      same_marks (get_or set i 0) 0
      (λ v. (λ b. absurd (out v b), λ b. absurd (has_none v b)))
    where
      out : (v : ℕ) → Has (get_or set i 0) v → ⊥
      out v b =
          let s : v < 16 = has_below 16 (get_or set i 0) v (small i) b in
          let d : (16 * i + v) / 16 ≡ i = omega arith in
          let m : (16 * i + v) % 16 ≡ v = omega arith in
          let g : InSet set (16 * i + v) = rw (d, m) b in
          omega (arith, below (16 * i + v) g)

  cleared_length : length (replicate n 0 ++ drop n set) ≡ set_words
  cleared_length = length-append (replicate n 0) (drop n set) ∙ omega (arith, length-replicate {A = ℕ} n 0, length-drop n set)

  cleared_word : (i : ℕ) → Dec (i < n) → get_or (replicate n 0 ++ drop n set) i 0 ≡ 0
  cleared_word i (yes h) =
      get_or-append (replicate n 0) (drop n set) 0 i (let e = length-replicate {A = ℕ} n 0 in omega arith) ∙ get_or-replicate n i 0 0 h
  cleared_word i (no h) =
      let e : n + (i - n) ≡ i = omega arith in
      let len : length (replicate {A = ℕ} n 0) ≡ n = length-replicate {A = ℕ} n 0 in
      let a = get_or-append-add {A = ℕ} (replicate n 0) (drop n set) (i - n) 0 in
      let b : get_or (replicate n 0 ++ drop n set) (n + (i - n)) 0 ≡ get_or (drop n set) (i - n) 0 = rw len at a in
      let d : get_or (drop n set) (i - n) 0 ≡ get_or set (n + (i - n)) 0 = get_or-drop n set (i - n) 0 in
      let f : get_or (replicate n 0 ++ drop n set) i 0 ≡ get_or set i 0 = rw e at (b ∙ d) in
      f ∙ word_empty i (omega arith)

  -- once the words that have marks are cleared the set is empty
  pub cleared_empty : replicate n 0 ++ drop n set ≡ replicate set_words 0
  cleared_empty =
      ext_get_or 0 (replicate n 0 ++ drop n set) (replicate set_words 0) (cleared_length ∙ sym (length-replicate {A = ℕ} set_words 0))
      (λ i h. cleared_word i (dec_lt i n) ∙ sym (get_or-replicate set_words i 0 0 (omega (arith, cleared_length))))
