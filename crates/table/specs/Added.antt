-- What a step of the analysis adds to the keys that it keeps.
use Rattle.std.specs.Prelude.{ℕ, ◌<◌, ◌≡◌, length}
use mathlib.Core.List.{List, ◌++◌, Memᴰ}
use Rattle.program.specs.Lists.{Distinct}

-- keys of S, each once and none that was there, stand behind those that were there
pub record Behind (ks : List ℕ) (S : ℕ → Type 0) (ks' : List ℕ) : Type 0 where
  pub new : List ℕ
  pub is : ks' ≡ ks ++ new
  pub of : (key : ℕ) → Memᴰ key new → S key
  pub distinct : Distinct new
  pub apart : (key : ℕ) → Memᴰ key new → Memᴰ key ks → ⊥

-- all keys of S are there now
pub record Plus (ks : List ℕ) (S : ℕ → Type 0) (ks' : List ℕ) : Type 0 where
  pub behind : Behind ks S ks'
  pub all : (key : ℕ) → S key → Memᴰ key ks'

-- "the result exceeds the room": the room is full, and a key of S is not there
pub record Full (ks : List ℕ) (S : ℕ → Type 0) (room : ℕ) (ks' : List ℕ) : Type 0 where
  pub behind : Behind ks S ks'
  pub at_room : length ks' ≡ room
  pub left : ℕ
  pub left_of : S left
  pub left_out : Memᴰ left ks' → ⊥

-- the keys of the steps of a loop below n
abbrev pub Below : (ℕ → ℕ → Type 0) → ℕ → ℕ → Type 0
Below S n key = (i : ℕ) × (i < n) × S i key
