-- Numbers of words: what the code asks of one before it reads there, from a bound on how far behind the beginning of its part the word stands.
use Prim.Native.Nat.{ℕ, ◌+◌, ◌*◌, ◌<◌}
use native.Mathlib.Omega.{arith}
use mathlib.Core.Path.{◌≡◌}
use lib.Dec.{T, leb, leb→le}
use mir.Syntax.{w64}
use mir.Val.{Fits}

-- a word is below this, and so is every number of a word
abbrev most_word : ℕ
most_word = 65536

module _ (base : ℕ) {i most : ℕ} (h : i < most) (few : T (leb (base + most) most_word)) where
  pub offset_fits : Fits w64 (base + i)
  offset_fits = omega (arith, leb→le (base + most) most_word few)

  pub offset_bytes_fit : Fits w64 ((base + i) * 2)
  offset_bytes_fit = omega (arith, leb→le (base + most) most_word few)

pub offset_within : (base : ℕ) {i most size n : ℕ} → i < most → n ≡ size → T (leb (base + most) size) → base + i < n
offset_within base {most = most} {size = size} h e few = omega (arith, leb→le (base + most) size few)

-- a word that is read is itself the number of a word
pub word_bytes_fit : {a : ℕ} → a < most_word → Fits w64 (a * 2)
word_bytes_fit h = omega arith

pub words_fit : {a b : ℕ} → a < most_word → b < most_word → Fits w64 (a + b)
words_fit h k = omega arith
