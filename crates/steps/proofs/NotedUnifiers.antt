-- Notes of unifiers: none at first, one more behind the others, and the next one taken.
use Prim.Native.Nat.{ℕ, ◌+◌, ◌*◌, ◌-◌, ◌≤◌, ◌<◌}
use native.Mathlib.Omega.{arith}
use mathlib.Core.Path.{◌≡◌, refl, sym, subst, ◌∙◌}
use mathlib.Core.List.{List}
use lib.ListN.{length, get_or}
use Rattle.terms.specs.Unifier.{Apart}
use Rattle.terms.specs.Store.{all_variables}
use Rattle.terms.specs.Bytes.{word_at, BytesPut, WordPut}
use Rattle.terms.specs.Noted.{NotedAt, noted_end, BindingsPut, BindingsTaken}
use Rattle.terms.proofs.BytesPut.{word_stays, put_then}
use Rattle.terms.proofs.NotedBindings.{noted_stays, end_stays, taken_back}
use Rattle.steps.specs.Situation.{Meeting, MetBindings}
use Rattle.steps.specs.Unifiers.{NotesIn, none, apart, unified, taken_at, noted_at, first_note, Room, next_at, Notes, NextWord, next_end, NextWithin, NextTaken}

-- bytes whose first two words are 0 note nothing
pub no_notes : (words dir : List ℕ) (start cells : ℕ) (unifiers : List ℕ) → Room unifiers → word_at unifiers taken_at ≡ 0 → word_at unifiers noted_at ≡ 0
    → Notes words dir start cells unifiers
no_notes words dir start cells unifiers room taken noted =
    record { fitting = record { room = room; within = omega (arith, room.some) }; left = rw (taken, noted) none }

-- bytes of the same length have the same room
pub room_stays : (unifiers unifiers' : List ℕ) → length unifiers' ≡ length unifiers → Room unifiers → Room unifiers'
room_stays unifiers unifiers' size room = record { some = omega (arith, room.some); few = omega (arith, room.few) }

-- both words are set to 0
pub notes_forgotten : {before unifiers after : List ℕ} → Room before → WordPut before unifiers taken_at 0 → WordPut unifiers after noted_at 0
    → (words dir : List ℕ) (start cells : ℕ) → Notes words dir start cells after
notes_forgotten {before} {unifiers} {after} room p q words dir start cells =
    no_notes words dir start cells after
    (room_stays before after (q.put.size ∙ p.put.size) room)
    (word_stays unifiers after taken_at (λ j l h. q.put.earlier j h) ∙ p.is)
    q.is

-- the bytes of a note of bindings
module _ {before named unifiers : List ℕ} {at size : ℕ} {places : List ℕ} (shape : ℕ) (word : WordPut before named at (2 * shape + 1))
    (put : BindingsPut places named unifiers (at + 2) size) where
  note_put : BytesPut before unifiers at (2 + size)
  note_put = put_then word.put put.put refl refl

  note_word : word_at unifiers at ≡ 2 * shape + 1
  note_word = word_stays named unifiers at (λ j l h. put.put.earlier j h) ∙ word.is

module _ {words dir : List ℕ} {start cells : ℕ} where
  notes_up : {unifiers : List ℕ} {from to : ℕ} → NotesIn words dir start cells unifiers from to → from ≤ to
  notes_up none = omega arith
  notes_up (apart s e a rest) = omega (arith, notes_up rest)
  notes_up (unified s places e u c rest) = omega (arith, notes_up rest)

  -- only the bytes of the notes matter
  notes_stay : {unifiers unifiers' : List ℕ} {from to : ℕ} → ((i : ℕ) → from ≤ i → i < to → get_or unifiers' i 0 ≡ get_or unifiers i 0)
      → NotesIn words dir start cells unifiers from to → NotesIn words dir start cells unifiers' from to
  notes_stay same none = none
  notes_stay {unifiers} {unifiers'} {from = from} same (apart s e a rest) =
      let up = notes_up rest in
      let word = word_stays unifiers unifiers' from (λ i l h. same i l (omega arith)) in
      apart s (word ∙ e) a (notes_stay (λ i l h. same i (omega arith) h) rest)
  notes_stay {unifiers} {unifiers'} {from = from} {to = to} same (unified s places e u c rest) =
      let up = notes_up rest in
      let word = word_stays unifiers unifiers' from (λ i l h. same i l (omega arith)) in
      let within : (i : ℕ) → from + 2 ≤ i → i < noted_end unifiers (from + 2) → get_or unifiers' i 0 ≡ get_or unifiers i 0 = λ i l h. same i (omega arith) (omega arith) in
      unified {to = to} s places (word ∙ e) u
      (noted_stays unifiers unifiers' (from + 2) within c)
      (rw (end_stays unifiers unifiers' (from + 2) within) (notes_stay (λ i l h. same i (omega arith) h) rest))

  notes_join : {unifiers : List ℕ} {from mid to : ℕ} → NotesIn words dir start cells unifiers from mid → NotesIn words dir start cells unifiers mid to
      → NotesIn words dir start cells unifiers from to
  notes_join none more = more
  notes_join (apart s e a rest) more = apart s e a (notes_join rest more)
  notes_join (unified s places e u c rest) more = unified s places e u c (notes_join rest more)

  -- a note of so many bytes is put behind the notes
  notes_more : {before unifiers after : List ℕ} {noted at size : ℕ} → Notes words dir start cells before → noted ≡ word_at before noted_at → at ≡ first_note + noted
      → at + size ≤ length before → BytesPut before unifiers at size → WordPut unifiers after noted_at (noted + size)
      → NotesIn words dir start cells unifiers at (at + size) → Notes words dir start cells after
  notes_more {before} {unifiers} {after} {noted} {at} {size} n noted-is at-is room p q more =
      record {
        fitting = record { room = room_stays before after (q.put.size ∙ p.size) n.fitting.room; within = omega (arith, q.is, q.put.size, p.size) };
        left = rw (taken, q.is, end) (notes_join (notes_stay (λ i l h. q.put.later i (omega arith) ∙ p.earlier i h) (rw behind at n.left))
            (notes_stay (λ i l h. q.put.later i (omega arith)) more));
      }
    where
      taken : word_at after taken_at ≡ word_at before taken_at
      taken = word_stays before after taken_at (λ j l h. q.put.earlier j h ∙ p.earlier j (omega arith))

      behind : first_note + word_at before noted_at ≡ at
      behind = omega arith

      end : first_note + (noted + size) ≡ at + size
      end = omega arith

  pub note_apart : {before unifiers after : List ℕ} {noted shape : ℕ} → Notes words dir start cells before → noted ≡ word_at before noted_at
      → first_note + noted + 2 ≤ length before → WordPut before unifiers (first_note + noted) (2 * shape) → WordPut unifiers after noted_at (noted + 2)
      → ((m : Meeting words dir shape start cells) → Apart m.S m.A) → Notes words dir start cells after
  note_apart {shape = shape} n noted-is room p q a = notes_more n noted-is refl room p.put q (apart shape p.is a none)

  pub note_unified : {before named unifiers after : List ℕ} {noted at shape size : ℕ} {places : List ℕ} → Notes words dir start cells before
      → noted ≡ word_at before noted_at → at ≡ first_note + noted → at + (2 + size) ≤ length before
      → WordPut before named at (2 * shape + 1) → BindingsPut places named unifiers (at + 2) size → WordPut unifiers after noted_at (noted + (2 + size))
      → ((m : Meeting words dir shape start cells) → MetBindings m.p.functions m.S m.A places) → Notes words dir start cells after
  note_unified {unifiers = unifiers} {at = at} {shape = shape} {size = size} {places = places} n noted-is at-is room word put q u =
      let end : noted_end unifiers (at + 2) ≡ at + (2 + size) = omega (arith, put.ends) in
      notes_more n noted-is at-is room (note_put shape word put) q
      (unified {to = at + (2 + size)} shape places (note_word shape word put) u put.noted (rw end none))

  -- the first note
  apart_first : {unifiers : List ℕ} {from to : ℕ} (shape : ℕ) → word_at unifiers from ≡ 2 * shape → from < to → NotesIn words dir start cells unifiers from to
      → ((m : Meeting words dir shape start cells) → Apart m.S m.A) × NotesIn words dir start cells unifiers (from + 2) to
  apart_first shape is l none = absurd (omega arith)
  apart_first shape is l (apart s e a rest) =
      (subst (λ (x : ℕ). (m : Meeting words dir x start cells) → Apart m.S m.A) (omega arith) a, rest)
  apart_first shape is l (unified s places e u c rest) = absurd (omega arith)

  unified_first : {unifiers : List ℕ} {from to : ℕ} (shape : ℕ) → word_at unifiers from ≡ 2 * shape + 1 → from < to → NotesIn words dir start cells unifiers from to
      → ((places : List ℕ) → length places ≡ all_variables → NotedAt unifiers (from + 2) places
      → (m : Meeting words dir shape start cells) → MetBindings m.p.functions m.S m.A places)
      × NotesIn words dir start cells unifiers (noted_end unifiers (from + 2)) to
  unified_first shape is l none = absurd (omega arith)
  unified_first shape is l (apart s e a rest) = absurd (omega arith)
  unified_first shape is l (unified s places e u c rest) = (
    λ places' size c'.
        subst (λ (x : ℕ). (m : Meeting words dir x start cells) → MetBindings m.p.functions m.S m.A places') (omega arith)
        (λ m. let b = u m in (b.0, taken_back b.1 c c' size)),
    rest,
  )

  module _ {unifiers : List ℕ} (n : Notes words dir start cells unifiers) {w : ℕ} (next : NextWord unifiers w) (shape : ℕ) where
    -- so many bytes of the notes are taken
    taken : {after : List ℕ} (v : ℕ) → WordPut unifiers after taken_at v → NotesIn words dir start cells unifiers (first_note + v) (first_note + word_at unifiers noted_at)
        → Notes words dir start cells after
    taken {after} v p rest =
        record {
          fitting = record { room = room_stays unifiers after p.put.size n.fitting.room; within = omega (arith, noted, n.fitting.within, p.put.size) };
          left = rw (p.is, noted) (notes_stay (λ i l h. p.put.later i (omega arith)) rest);
        }
      where
        noted : word_at after noted_at ≡ word_at unifiers noted_at
        noted = word_stays unifiers after noted_at (λ j l h. p.put.later j l)

    pub next_room : word_at unifiers taken_at + 2 < 65536
    next_room = omega (arith, next.left, n.fitting.within, n.fitting.room.few)

    pub next_apart : w ≡ 2 * shape → {after : List ℕ} → WordPut unifiers after taken_at (word_at unifiers taken_at + 2)
        → ((m : Meeting words dir shape start cells) → Apart m.S m.A) × Notes words dir start cells after
    next_apart e p =
        let first = apart_first shape (sym next.is ∙ e) (omega (arith, next.left)) n.left in
        let two : next_at unifiers + 2 ≡ first_note + (word_at unifiers taken_at + 2) = omega arith in
        (first.0, taken (word_at unifiers taken_at + 2) p (rw two at first.1))

    module _ (e : w ≡ 2 * shape + 1) where
      abbrev first : ((places : List ℕ) → length places ≡ all_variables → NotedAt unifiers (next_at unifiers + 2) places
          → (m : Meeting words dir shape start cells) → MetBindings m.p.functions m.S m.A places)
          × NotesIn words dir start cells unifiers (next_end unifiers) (first_note + word_at unifiers noted_at)
      first = unified_first shape (sym next.is ∙ e) (omega (arith, next.left)) n.left

      pub next_within : NextWithin unifiers
      next_within = record { room = n.fitting.room; within = omega (arith, notes_up first.1, n.fitting.within) }

      pub next_bindings : {after places : List ℕ} → NextTaken unifiers after places
          → (m : Meeting words dir shape start cells) → MetBindings m.p.functions m.S m.A places
      next_bindings t = first.0 _ t.all_places t.noted

      pub next_unified : {after places : List ℕ} → NextTaken unifiers after places → Notes words dir start cells after
      next_unified t = let end = t.end in taken end.0 end.2 (rw end.1 first.1)

-- the next note, of a shape that unifies, as it is read
module _ {unifiers : List ℕ} {taken : ℕ} (next : NextWithin unifiers) (taken_is : taken ≡ word_at unifiers taken_at) where
  -- its bindings are within the bytes, and where they end is a word
  pub next_fits : noted_end unifiers (first_note + taken + 2) ≤ length unifiers
  next_fits = rw taken_is next.within

  module _ {places : List ℕ} {end : ℕ} (t : BindingsTaken unifiers places (first_note + taken + 2) end) where
    pub next_counted : (taken_at + 2 ≤ length unifiers) × (end - first_note < 65536)
    next_counted = (omega (arith, next.room.some), omega (arith, t.ends, next_fits, next.room.few))

    pub next_taken : {after : List ℕ} → WordPut unifiers after taken_at (end - first_note) → NextTaken unifiers after places
    next_taken p =
        let end_is : end ≡ next_end unifiers = rw taken_is at t.ends in
        record { end = (end - first_note, omega arith, p); all_places = t.all_places; noted = rw taken_is at t.noted }
