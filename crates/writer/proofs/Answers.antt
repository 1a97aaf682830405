-- The answer of `write`: which fault decides, and what the room holds in the end.
use Prim.Native.Nat.{ℕ, zero, suc, ◌+◌, ◌*◌, ◌≤◌, ◌<◌}
use mathlib.Core.Path.{◌≡◌, refl, sym, ap, ap₂}
use mathlib.Core.Bool.{Bool, true, false, cond}
use mathlib.Core.List.{List, []}
use native.Mathlib.Omega.{arith}
use lib.ListN.{length, take}
use lib.Dec.{ltb}
use borrow.Author.Tests.{lt-ltb, le-ltb, ltb-false}
use Rattle.std.specs.Prelude.{⊤}
use Rattle.std.proofs.Common.{Ok, Err}
use Rattle.program.specs.Program.{Program}
use Rattle.program.specs.Faults.{sound, faults, reply_of as scanReply}
use Rattle.program.specs.Reply.{too_soon, follows, bad_name, refused, done, number_of, scanned, replied}
use Rattle.program.specs.declared.reply.Fault.{Fault}
use Rattle.program.specs.declared.reply.Refusal.TheVariants.{NoRoom}
use Rattle.program.specs.declared.reply.Reply.{Reply}
use Rattle.program.proofs.Checks.{numbered, checked_fault}
use Rattle.text.specs.Name.{name_bytes}
use Rattle.text.specs.Room.{in_room}
use Rattle.text.specs.Put.{Put}
use Rattle.text.proofs.Puts.{put_count, put_front, put_over}
use Rattle.cells.specs.TextSoFar.{Read, wrong, right}
use Rattle.writer.specs.Names.{is_sound, each_name, names_of, names_reply}
use Rattle.writer.specs.Write.{text_of, write_of, room_for, answer_of, reply_of, text_in}
use Rattle.writer.specs.Left.{Left}

-- the names as they are, or a fault with a number
abbrev AsLent : List ℕ → Read (List ℕ) → Type 0
AsLent names (wrong number place) = 0 < number
AsLent names (right ns) = ns ≡ names

each_as_lent : (names : List ℕ) (predicates i n : ℕ) → AsLent names (each_name names predicates i n)
each_as_lent names predicates i zero = refl
each_as_lent names predicates i (suc n) = by (is_sound names predicates i) (each_as_lent names predicates (suc i) n)
  where
    by : (t : Bool) → AsLent names (each_name names predicates (suc i) n) → AsLent names (cond t (each_name names predicates (suc i) n) (wrong bad_name (i * name_bytes)))
    by true ih = ih
    by false ih = omega arith

module _ (names : List ℕ) (predicates symbols : ℕ) where
  as_lent : AsLent names (names_of names predicates symbols)
  as_lent = by (ltb (length names) (symbols * name_bytes)) (ltb (symbols * name_bytes) (length names))
    where
      by : (s t : Bool) → AsLent names (cond s (wrong too_soon (length names)) (cond t (wrong follows (symbols * name_bytes)) (each_name names predicates 0 symbols)))
      by true t = omega arith
      by false true = omega arith
      by false false = each_as_lent names predicates 0 symbols

  -- sound names have 16 bytes a symbol
  pub names_size : (names_reply (names_of names predicates symbols)).number ≡ 0 → length names ≡ symbols * name_bytes
  names_size = by (ltb (length names) (symbols * name_bytes)) (ltb (symbols * name_bytes) (length names)) refl refl
    where
      by : (s t : Bool) → ltb (length names) (symbols * name_bytes) ≡ s → ltb (symbols * name_bytes) (length names) ≡ t
          → (names_reply (cond s (wrong too_soon (length names)) (cond t (wrong follows (symbols * name_bytes)) (each_name names predicates 0 symbols)))).number ≡ 0
          → length names ≡ symbols * name_bytes
      by true t e e' z = absurd (omega arith)
      by false true e e' z = absurd (omega arith)
      by false false e e' z = omega (arith, ltb-false (length names) (symbols * name_bytes) e, ltb-false (symbols * name_bytes) (length names) e')

  -- and they are the names that were lent
  pub names_right : (names_reply (names_of names predicates symbols)).number ≡ 0 → names_of names predicates symbols ≡ right names
  names_right = by (names_of names predicates symbols) as_lent
    where
      by : (o : Read (List ℕ)) → AsLent names o → (names_reply o).number ≡ 0 → o ≡ right names
      by (wrong number place) h z = absurd (omega arith)
      by (right ns) h z = ap right h

  -- the fault that a check answers is that of the names
  pub names_fault : (f : Fault) → scanned (Err f) ≡ names_reply (names_of names predicates symbols) → names_of names predicates symbols ≡ wrong (number_of f.refusal) f.place
  names_fault f = by (names_of names predicates symbols)
    where
      by : (o : Read (List ℕ)) → scanned (Err f) ≡ names_reply o → o ≡ wrong (number_of f.refusal) f.place
      by (wrong number place) e = ap₂ wrong (sym (ap (λ (x : Reply). x.number) e)) (sym (ap (λ (x : Reply). x.place) e))
      by (right ns) e = let n : number_of f.refusal ≡ 0 = ap (λ (x : Reply). x.number) e in absurd (omega (arith, numbered f.refusal))

  -- names that a check passes are sound
  pub names_passed : (v : ⊤) → scanned (Ok v) ≡ names_reply (names_of names predicates symbols) → (names_reply (names_of names predicates symbols)).number ≡ 0
  names_passed v e = sym (ap (λ (x : Reply). x.number) e)

-- what decides, and what is in the room then
module _ (words names : List ℕ) (room : ℕ) (left : List ℕ) where
  -- the words' faults come first
  pub words_left : (f : Fault) → scanned (Err f) ≡ scanReply (faults words) → Left (answer_of words names room) (Err f) left
  unfolding write_of
  words_left f is = rw (checked_fault words f is) (refl, refl)

  module _ (p : Program) (accepted : faults words ≡ sound p) where
    abbrev found : Read (List ℕ)
    found = names_of names (length p.predicates) (length p.predicates + length p.functions)

    -- of accepted words, the names decide next
    pub names_left : (f : Fault) → scanned (Err f) ≡ names_reply found → Left (answer_of words names room) (Err f) left
    unfolding write_of
    names_left f is = rw (accepted, names_fault names (length p.predicates) (length p.predicates + length p.functions) f is) (refl, refl)

    -- and then the room
    pub text_answered : (names_reply found).number ≡ 0 → answer_of words names room ≡ room_for room (text_of p names)
    unfolding write_of
    text_answered z = rw (accepted, names_right names (length p.predicates) (length p.predicates + length p.functions) z)

-- the room has no room for the text, or it holds it
module _ {t before after : List ℕ} {end : ℕ} (p : Put t before after 0 end) where
  pub over_left : length before < end → (place : ℕ) → place ≡ length before → Left (room_for (length before) t) (Err (record { refusal = NoRoom; place = place })) after
  over_left h place e = rw (lt-ltb (length before) (length t) (put_over p h)) (refl, e)

  pub fits_left : end ≤ length before → Left (room_for (length before) t) (Ok end) after
  fits_left h =
      let n : end ≡ length t = omega (arith, put_count p h) in
      rw (le-ltb (length before) (length t) (omega arith)) (n, put_front p h)

-- what is cleared behind an answer
module _ (room : ℕ) (left : List ℕ) where
  pub text_written : (end : ℕ) (a : Read (List ℕ)) → Left a (Ok end) left → (replied (Ok end) ≡ reply_of a) × (in_room room (take end left) ≡ text_in room a)
  text_written end (wrong number place) h = absurd h
  text_written end (right text) h = (ap done h.0, ap (in_room room) h.1)

  pub text_refused : (f : Fault) (a : Read (List ℕ)) → Left a (Err f) left → (replied (Err f) ≡ reply_of a) × (in_room room [] ≡ text_in room a)
  text_refused f (wrong number place) h = (ap₂ refused h.0 h.1, refl)
  text_refused f (right text) h = absurd h
