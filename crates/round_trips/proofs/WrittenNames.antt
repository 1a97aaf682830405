-- Names that the writer takes are sound: each is a name in its 16 bytes, and it is found at its own number, since names are distinct in their kind.
use Prim.Native.Nat.{ℕ, zero, suc, ◌+◌, ◌-◌, ◌*◌, ◌≤◌, ◌<◌}
use native.Mathlib.Omega.{arith}
use mathlib.Core.Path.{◌≡◌, refl, sym, ap, ◌∙◌}
use mathlib.Core.Bool.{Bool, true, false, cond}
use mathlib.Core.List.{List, ◌++◌}
use lib.ListN.{length, take, drop, length-take, take-append-drop}
use lib.Seq.{take-add}
use native.Mathlib.Decide.{dec_lt}
use lib.Dec.{eqb, ltb}
use borrow.Author.Tests.{lt-ltb, le-ltb, ltb-false, eqb-true}
use Rattle.program.specs.Reply.{too_soon, follows, bad_name}
use Rattle.text.specs.Token.{is_name}
use Rattle.text.specs.Name.{name_bytes, padded, entry, same, seek}
use Rattle.text.proofs.Names.{same_equal, same_refl}
use Rattle.cells.specs.TextSoFar.{right}
use Rattle.cells.proofs.HeldSymbols.{seek_alike}
use Rattle.declarations.proofs.Symbols.{entry_front}
use Rattle.written_lines.specs.Tokens.{name_in}
use Rattle.writer.specs.Names.{is_entry, first_of, is_sound, each_name, names_of}
use Rattle.round_trips.proofs.Tokens.{both_true}
use Rattle.round_trips.proofs.ReadParts.{first_right, second_right}
use Rattle.round_trips.proofs.ReadNames.{SoundNames}

-- what is known of name i
pub record SoundName (names : List ℕ) (predicates i : ℕ) : Type 0 where
  pub name : is_name (name_in (entry names i)) ≡ true
  pub kept : padded (name_in (entry names i)) ≡ entry names i
  pub first : seek names (entry names i) (first_of predicates i) (i - first_of predicates i) ≡ i

pub sound_name : {names : List ℕ} {predicates functions : ℕ} → SoundNames names predicates functions → (i : ℕ) → i < predicates + functions
    → SoundName names predicates i
sound_name {names = names} {predicates = predicates} sound i h =
    let e : List ℕ = entry names i in
    let parts = both_true (is_entry e) (eqb (seek names e (first_of predicates i) (i - first_of predicates i)) i) (sound.each i h) in
    let whole = both_true (is_name (name_in e)) (same (padded (name_in e)) e) parts.0 in
    record { name = whole.0; kept = same_equal (padded (name_in e)) e whole.1; first = eqb-true _ i parts.1 }

each_sound : (names : List ℕ) (predicates i n : ℕ) (ns : List ℕ) → each_name names predicates i n ≡ right ns
    → (ns ≡ names) × ((k : ℕ) → i ≤ k → k < i + n → is_sound names predicates k ≡ true)
each_sound names predicates i zero ns e = (cc, λ k l h. absurd (omega arith))
each_sound names predicates i (suc n) ns e =
    let first = first_right (is_sound names predicates i) (each_name names predicates (suc i) n) bad_name (i * name_bytes) ns e in
    let others = each_sound names predicates (suc i) n ns first.1 in
    (others.0, λ k l h. at first.0 others.1 k (dec_lt i k) l h)
  where
    at : is_sound names predicates i ≡ true → ((k : ℕ) → suc i ≤ k → k < suc i + n → is_sound names predicates k ≡ true)
        → (k : ℕ) → Dec (i < k) → i ≤ k → k < i + suc n → is_sound names predicates k ≡ true
    at here others k (yes d) l h = others k d (omega arith)
    at here others k (no d) l h = let last : k ≡ i = omega arith in rw last here

-- names that are taken are as long as they should be, and each is sound
pub names_sound : (names : List ℕ) (predicates functions : ℕ) (ns : List ℕ) → names_of names predicates (predicates + functions) ≡ right ns
    → (ns ≡ names) × SoundNames names predicates functions
names_sound names predicates functions ns e =
    let size : ℕ = (predicates + functions) * name_bytes in
    let long = second_right (ltb (length names) size) _ too_soon (length names) ns e in
    let whole = second_right (ltb size (length names)) (each_name names predicates 0 (predicates + functions)) follows size ns long.1 in
    let low = ltb-false (length names) size long.0 in
    let high = ltb-false size (length names) whole.0 in
    let each = each_sound names predicates 0 (predicates + functions) ns whole.1 in
    (each.0, record { sized = omega arith; each = λ i h. each.1 i (omega arith) (omega arith) })

-- a name that is not among m names, and then stands there, is found there
pub seek_behind : (names key : List ℕ) (from m k i : ℕ) → i ≡ from + m → seek names key from m ≡ i → entry names i ≡ key
    → seek names key from (m + suc k) ≡ i
seek_behind names key from zero k i e s f =
    let at : from ≡ i = omega arith in
    let more : zero + suc k ≡ suc k = omega arith in
    let here : same (entry names from) key ≡ true = rw (at, f) (same_refl key) in
    rw (more, here) at
seek_behind names key from (suc m) k i e s f =
    let more : suc m + suc k ≡ suc (m + suc k) = omega arith in
    rw more (go (same (entry names from) key) s (λ s'. seek_behind names key (suc from) m k i (omega arith) s' f))
  where
    go : (t : Bool) → cond t from (seek names key (suc from) m) ≡ i → (seek names key (suc from) m ≡ i → seek names key (suc from) (m + suc k) ≡ i)
        → cond t from (seek names key (suc from) (m + suc k)) ≡ i
    go true s ih = s
    go false s ih = ih s

-- the first i names
abbrev pub first_names : List ℕ → ℕ → List ℕ
first_names names i = take (i * name_bytes) names

-- one name more
pub names_more : (names : List ℕ) (i : ℕ) → first_names names i ++ entry names i ≡ first_names names (suc i)
names_more names i =
    let next : suc i * name_bytes ≡ i * name_bytes + name_bytes = omega arith in
    rw next (sym (take-add (i * name_bytes) name_bytes names))

entry_first : (names : List ℕ) (i k : ℕ) → i * name_bytes ≤ length names → k < i → entry (first_names names i) k ≡ entry names k
entry_first names i k l h =
    let size : length (first_names names i) ≡ i * name_bytes = rw (length-take (i * name_bytes) names) (omega arith) in
    sym (entry_front (first_names names i) (drop (i * name_bytes) names) k (omega arith))
    ∙ ap (λ (l : List ℕ). entry l k) (take-append-drop (i * name_bytes) names)

-- a sound name is found at its own number among the names of its kind, those from `from` to below `to`
pub name_found : (names : List ℕ) (predicates from to i : ℕ) → first_of predicates i ≡ from → from ≤ i → i < to → SoundName names predicates i
    → seek names (padded (name_in (entry names i))) from (to - from) ≡ i
name_found names predicates from to i e l h sound =
    let all : to - from ≡ (i - from) + suc (to - suc i) = omega arith in
    rw (sound.kept, all) (seek_behind names (entry names i) from (i - from) (to - suc i) i (omega arith) (rw e at sound.first) refl)

-- and it is not among those before it
pub name_new : (names : List ℕ) (predicates from m i : ℕ) → i ≡ from + m → first_of predicates i ≡ from → i * name_bytes ≤ length names
    → SoundName names predicates i → seek (first_names names i) (padded (name_in (entry names i))) from m ≡ from + m
name_new names predicates from m i at e l sound =
    let all : i - from ≡ m = omega arith in
    rw sound.kept
    (seek_alike (first_names names i) names (entry names i) from m (λ k h₁ h₂. entry_first names i k l (omega arith)) ∙ (rw (e, all) at sound.first) ∙ at)

pub first_predicate : (predicates i : ℕ) → i < predicates → first_of predicates i ≡ 0
first_predicate predicates i h = rw (lt-ltb i predicates h)

pub first_function : (predicates i : ℕ) → predicates ≤ i → first_of predicates i ≡ predicates
first_function predicates i h = rw (le-ltb i predicates h)
