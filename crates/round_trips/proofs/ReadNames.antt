-- The names that the reader keeps are sound for the writer: a name that is new in its kind is found first at its own number.
use Prim.Native.Nat.{ℕ, zero, suc, ◌+◌, ◌-◌, ◌*◌, ◌≤◌, ◌<◌}
use native.Mathlib.Omega.{arith}
use native.Mathlib.Decide.{dec_lt}
use mathlib.Core.Path.{◌≡◌, refl, ap, ap₂, ◌∙◌}
use mathlib.Core.Bool.{Bool, true, ◌&&◌}
use mathlib.Core.List.{List, [], ◌++◌}
use lib.ListN.{length, length-append}
use lib.Dec.{eqb}
use borrow.Author.Tests.{lt-ltb, le-ltb, eq-eqb, eqb-true}
use Rattle.text.specs.Token.{is_name}
use Rattle.text.specs.Name.{name_bytes, padded, entry, seek}
use Rattle.text.proofs.Names.{same_refl}
use Rattle.text.proofs.Rooms.{length_in_room}
use Rattle.cells.specs.TextSoFar.{right}
use Rattle.declarations.specs.Declarations.{fresh}
use Rattle.cells.proofs.HeldSymbols.{seek_alike}
use Rattle.declarations.proofs.Symbols.{entry_front, entry_last}
use Rattle.writer.specs.Names.{is_entry, first_of, is_sound, each_name, names_of}
use Rattle.written_lines.specs.Tokens.{name_in, symbol_token}
use Rattle.round_trips.proofs.Tokens.{both_true, name_in_padded}

-- name i is well formed, and the first that is so called from a number on
abbrev sound_from : List ℕ → ℕ → ℕ → Bool
sound_from names from i = is_entry (entry names i) && eqb (seek names (entry names i) from (i - from)) i

-- a name that was sound stays so with more names behind it
sound_front : (names key : List ℕ) (from i : ℕ) → from ≤ i → i * name_bytes + name_bytes ≤ length names → sound_from (names ++ key) from i ≡ sound_from names from i
sound_front names key from i h fits =
    rw (entry_front names key i fits)
    (ap (λ (k : ℕ). is_entry (entry names i) && eqb k i)
    (seek_alike (names ++ key) names (entry names i) from (i - from) (λ k h₁ h₂. entry_front names key k (omega arith))))

module _ (names s : List ℕ) where
  -- the name that was put last
  pub last_entry : (n : ℕ) → length names ≡ n * name_bytes → entry (names ++ padded s) n ≡ padded s
  last_entry n size = entry_last names (padded s) n size (length_in_room name_bytes s)

  pub last_token : (n : ℕ) → length names ≡ n * name_bytes → is_name s ≡ true → symbol_token (names ++ padded s) n ≡ s
  last_token n size is_name = ap name_in (last_entry n size) ∙ name_in_padded s is_name

  sound_last : (from n : ℕ) → length names ≡ (from + n) * name_bytes → fresh names from n s ≡ true → sound_from (names ++ padded s) from (from + n) ≡ true
  sound_last from n size new =
      let parts = both_true (is_name s) (eqb (seek names (padded s) from n) (from + n)) new in
      let back : from + n - from ≡ n = omega arith in
      let nowhere : seek (names ++ padded s) (padded s) from n ≡ from + n =
      seek_alike (names ++ padded s) names (padded s) from n (λ k h₁ h₂. entry_front names (padded s) k (omega arith))
      ∙ eqb-true _ _ parts.1 in
      rw (last_entry (from + n) size, name_in_padded s parts.0, parts.0, same_refl (padded s), back, nowhere, eq-eqb (from + n) (from + n) refl)

-- each of so many names is sound, where so many are predicates'
pub record SoundNames (names : List ℕ) (predicates functions : ℕ) : Type 0 where
  pub sized : length names ≡ (predicates + functions) * name_bytes
  pub each : (i : ℕ) → i < predicates + functions → is_sound names predicates i ≡ true

pub no_names : SoundNames [] 0 0
no_names = record { sized = refl; each = λ i h. absurd (omega arith) }

-- a new predicate, while there are no functions
pub predicate_sound : (names s : List ℕ) (predicates : ℕ) → SoundNames names predicates 0 → fresh names 0 predicates s ≡ true
    → SoundNames (names ++ padded s) (predicates + 1) 0
predicate_sound names s predicates sound new =
    record {
      sized = length-append names (padded s) ∙ ap₂ (λ (a b : ℕ). a + b) sound.sized (length_in_room name_bytes s) ∙ omega arith;
      each = λ i h. by i h (dec_lt i predicates);
    }
  where
    by : (i : ℕ) → i < predicates + 1 + 0 → Dec (i < predicates) → is_sound (names ++ padded s) (predicates + 1) i ≡ true
    by i h (yes l) =
        let before : is_sound names predicates i ≡ true = sound.each i (omega arith) in
        let old : sound_from names 0 i ≡ true = rw (lt-ltb i predicates l) at before in
        rw (lt-ltb i (predicates + 1) (omega arith)) (sound_front names (padded s) 0 i (omega arith) (omega (arith, sound.sized)) ∙ old)
    by i h (no l) =
        let size : length names ≡ (0 + predicates) * name_bytes = omega (arith, sound.sized) in
        let is : 0 + predicates ≡ i = omega arith in
        rw (lt-ltb i (predicates + 1) (omega arith)) (rw is at (sound_last names s 0 predicates size new))

-- a new function
pub function_sound : (names s : List ℕ) (predicates functions : ℕ) → SoundNames names predicates functions → fresh names predicates functions s ≡ true
    → SoundNames (names ++ padded s) predicates (functions + 1)
function_sound names s predicates functions sound new =
    record {
      sized = length-append names (padded s) ∙ ap₂ (λ (a b : ℕ). a + b) sound.sized (length_in_room name_bytes s) ∙ omega arith;
      each = λ i h. by i h (dec_lt i (predicates + functions));
    }
  where
    first_before : (i : ℕ) → first_of predicates i ≤ i
    first_before i = go (dec_lt i predicates)
      where
        go : Dec (i < predicates) → first_of predicates i ≤ i
        go (yes l) = rw (lt-ltb i predicates l) (omega arith)
        go (no l) = let k : predicates ≤ i = omega arith in rw (le-ltb i predicates k) k

    by : (i : ℕ) → i < predicates + (functions + 1) → Dec (i < predicates + functions) → is_sound (names ++ padded s) predicates i ≡ true
    by i h (yes l) =
        sound_front names (padded s) (first_of predicates i) i (first_before i) (omega (arith, sound.sized)) ∙ sound.each i l
    by i h (no l) =
        let is : predicates + functions ≡ i = omega arith in
        let high : predicates ≤ i = omega arith in
        rw (le-ltb i predicates high) (rw is at (sound_last names s predicates functions sound.sized new))

each_right : (names : List ℕ) (predicates i n : ℕ) → ((k : ℕ) → i ≤ k → k < i + n → is_sound names predicates k ≡ true) → each_name names predicates i n ≡ right names
each_right names predicates i zero h = refl
each_right names predicates i (suc n) h =
    rw (h i (omega arith) (omega arith)) (each_right names predicates (suc i) n (λ k h₁ h₂. h k (omega arith) (omega arith)))

-- sound names have no fault
pub names_right : (names : List ℕ) (predicates functions : ℕ) → SoundNames names predicates functions → names_of names predicates (predicates + functions) ≡ right names
names_right names predicates functions sound =
    let short : (predicates + functions) * name_bytes ≤ length names = omega (arith, sound.sized) in
    let long : length names ≤ (predicates + functions) * name_bytes = omega (arith, sound.sized) in
    rw (le-ltb _ _ short, le-ltb _ _ long) (each_right names predicates 0 (predicates + functions) (λ k h₁ h₂. sound.each k (omega arith)))
