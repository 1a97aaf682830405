-- The answer for a text, from that for its lines: the length before them, the word count and the room behind them.
use Prim.Native.Nat.{ℕ, ◌*◌, ◌≤◌, ◌<◌}
use mathlib.Core.Path.{◌≡◌, refl, sym, ap, ◌∙◌}
use mathlib.Core.List.{List, []}
use native.Mathlib.Omega.{arith}
use lib.ListN.{length}
use mathlib.Core.Bool.{Bool, true, false, cond}
use lib.Dec.{ltb}
use borrow.Author.Tests.{lt-ltb, le-ltb, ltb-false}
use Rattle.program.specs.Limits.{max_words, max_bytes}
use Rattle.program.specs.Reply.{too_long, no_room, number_of, refused, done}
use Rattle.text.specs.Room.{in_room}
use Rattle.text.specs.Name.{name_bytes, max_names}
use Rattle.text.specs.Line.{parts, line_feed}
use Rattle.std.specs.Prelude.{Ok, Err}
use Rattle.program.specs.declared.reply.Fault.{Fault}
use Rattle.declarations.specs.declared.lined.Sizes.{Sizes}
use Rattle.declarations.specs.Held.{sizes_of}
use Rattle.cells.specs.TextSoFar.{Read, wrong, right, next, nothing, Scenario}
use Rattle.text_lines.specs.Lines.{all_lines}
use Rattle.reader.specs.Found.{FoundAs}
use Rattle.reader.specs.Read.{counted, read_of, in_rooms, answer_of, reply_of, read_left}

pub too_long_law : (text : List ℕ) → max_bytes < length text → read_of text ≡ wrong too_long max_bytes
unfolding read_of
too_long_law text h = rw (lt-ltb max_bytes (length text) h)

pub by_lines : (text : List ℕ) → length text ≤ max_bytes → read_of text ≡ next (all_lines nothing 0 (parts line_feed text)) (counted (length text))
unfolding read_of
by_lines text h = rw (le-ltb max_bytes (length text) h)

-- in any room, what is wrong stays wrong
pub answer_long : (text : List ℕ) (roomW roomN : ℕ) → max_bytes < length text → answer_of text roomW roomN ≡ wrong too_long max_bytes
answer_long text roomW roomN h = rw (too_long_law text h)

module _ (names words : List ℕ) where
  pub fault_is : (o : Read Scenario) (fault : Fault) → FoundAs names words (Err fault) o → o ≡ wrong (number_of fault.refusal) fault.place
  fault_is (wrong n p) fault e = let number : n ≡ number_of fault.refusal = cc in let place : p ≡ fault.place = cc in λ i. wrong (number i) (place i)
  fault_is (right s) fault e = absurd (let f = e.0 in let z : ◌≡◌ {A = ℕ} 0 1 = cc in omega arith)

  -- the scenario that was found
  pub record Has (o : Read Scenario) (sizes : Sizes) : Type 0 where
    pub scenario : Scenario
    pub is : o ≡ right scenario
    pub sized : sizes ≡ sizes_of scenario
    pub word_room : words ≡ in_room max_words scenario.words
    pub name_room : names ≡ in_room (max_names * name_bytes) scenario.names
    pub few : length scenario.names ≤ max_names * name_bytes

  pub done_is : (o : Read Scenario) (sizes : Sizes) → FoundAs names words (Ok sizes) o → Has o sizes
  done_is (wrong n p) sizes e = absurd (let z : ◌≡◌ {A = ℕ} 0 1 = cc in omega arith)
  done_is (right s) sizes e = let f = e.0 in record { scenario = s; is = refl; sized = cc; word_room = e.1; name_room = e.2; few = e.3 }

  module _ (text : List ℕ) (roomW roomN : ℕ) (h : length text ≤ max_bytes) where
    abbrev lines : Read Scenario
    lines = all_lines nothing 0 (parts line_feed text)

    pub text_fault : (fault : Fault) → FoundAs names words (Err fault) lines → FoundAs names words (Err fault) (answer_of text roomW roomN)
    text_fault fault e = rw (by_lines text h, fault_is lines fault e) refl

    module _ (sizes : Sizes) (e : FoundAs names words (Ok sizes) lines) where
      abbrev found : Has lines sizes
      found = done_is lines sizes e

      counts : (sizes.words ≡ length found.scenario.words) × (sizes.names ≡ length found.scenario.names)
      counts = (ap (λ (z : Sizes). z.words) found.sized, ap (λ (z : Sizes). z.names) found.sized)

      pub text_counted : max_words < sizes.words → answer_of text roomW roomN ≡ wrong too_long (length text)
      text_counted m =
          let k : max_words < length found.scenario.words = omega (arith, counts.0) in
          rw (by_lines text h, found.is, lt-ltb max_words (length found.scenario.words) k)

      module _ (m : sizes.words ≤ max_words) where
        read : read_of text ≡ right found.scenario
        read =
            let k : length found.scenario.words ≤ max_words = omega (arith, counts.0) in
            by_lines text h ∙ ap (λ (o : Read Scenario). next o (counted (length text))) found.is ∙ rw (le-ltb max_words (length found.scenario.words) k)

        pub text_no_words : roomW < sizes.words → answer_of text roomW roomN ≡ wrong no_room roomW
        text_no_words l =
            let k : roomW < length found.scenario.words = omega (arith, counts.0) in
            rw (read, lt-ltb roomW (length found.scenario.words) k)

        module _ (fits : sizes.words ≤ roomW) where
          in_words : ltb roomW (length found.scenario.words) ≡ false
          in_words = le-ltb roomW (length found.scenario.words) (omega (arith, counts.0))

          pub text_no_names : roomN < sizes.names → answer_of text roomW roomN ≡ wrong no_room roomN
          text_no_names l =
              let k : roomN < length found.scenario.names = omega (arith, counts.1) in
              rw (read, in_words, lt-ltb roomN (length found.scenario.names) k)

          pub text_done : sizes.names ≤ roomN → FoundAs names words (Ok sizes) (answer_of text roomW roomN)
          text_done l =
              let k : length found.scenario.names ≤ roomN = omega (arith, counts.1) in
              rw (read, in_words, le-ltb roomN (length found.scenario.names) k) (ap Ok found.sized, found.word_room, found.name_room, found.few)

-- a text that is read has no more words than a program may have
pub read_few : (text : List ℕ) (s : Scenario) → read_of text ≡ right s → length s.words ≤ max_words
unfolding read_of
read_few text s e = go (ltb max_bytes (length text)) (all_lines nothing 0 (parts line_feed text)) e
  where
    last : (u : Scenario) (t : Bool) → ltb max_words (length u.words) ≡ t → cond t (wrong too_long (length text)) (right u) ≡ right s → length s.words ≤ max_words
    last u true f e = absurd (let z : ◌≡◌ {A = ℕ} 0 1 = cc in omega arith)
    last u false f e = let same : u ≡ s = cc in rw (sym same) (ltb-false max_words (length u.words) f)

    go : (t : Bool) (o : Read Scenario) → cond t (wrong too_long max_bytes) (next o (counted (length text))) ≡ right s → length s.words ≤ max_words
    go true o e = absurd (let z : ◌≡◌ {A = ℕ} 0 1 = cc in omega arith)
    go false (wrong n p) e = absurd (let z : ◌≡◌ {A = ℕ} 0 1 = cc in omega arith)
    go false (right u) e = last u (ltb max_words (length u.words)) refl e

-- the reply and all lent output, by the answer
pub refused_all : (o : Read Scenario) (number place roomW roomN : ℕ) (ws ns : List ℕ) → o ≡ wrong number place → ws ≡ in_room roomW [] → ns ≡ in_room roomN []
    → (refused number place ≡ reply_of o) × ((ws, ns) ≡ read_left roomW roomN o)
refused_all o number place roomW roomN ws ns e f g = rw e (refl, λ i. (f i, g i))

pub accepted_all : (o : Read Scenario) (s : Scenario) (count roomW roomN : ℕ) (ws ns : List ℕ) → o ≡ right s → count ≡ length s.words
    → ws ≡ in_room roomW s.words → ns ≡ in_room roomN s.names → (done count ≡ reply_of o) × ((ws, ns) ≡ read_left roomW roomN o)
accepted_all o s count roomW roomN ws ns e c f g = rw (e, c) (refl, λ i. (f i, g i))

-- what fits a room was read
pub record Fits (words names : ℕ) (o : Read Scenario) (s : Scenario) : Type 0 where
  pub was_read : o ≡ right s
  pub word_count : length s.words ≤ words
  pub name_count : length s.names ≤ names

pub fits : (words names : ℕ) (o : Read Scenario) (s : Scenario) → next o (in_rooms words names) ≡ right s → Fits words names o s
fits words names (wrong n p) s e = absurd (let z : ◌≡◌ {A = ℕ} 0 1 = cc in omega arith)
fits words names (right u) s e = rooms (ltb words (length u.words)) refl (ltb names (length u.names)) refl e
  where
    rooms : (t : Bool) → ltb words (length u.words) ≡ t → (v : Bool) → ltb names (length u.names) ≡ v
        → cond t (wrong no_room words) (cond v (wrong no_room names) (right u)) ≡ right s → Fits words names (right u) s
    rooms true f v g e = absurd (let z : ◌≡◌ {A = ℕ} 0 1 = cc in omega arith)
    rooms false f true g e = absurd (let z : ◌≡◌ {A = ℕ} 0 1 = cc in omega arith)
    rooms false f false g e =
        let same : u ≡ s = cc in
        rw (← same) (record { was_read = refl; word_count = ltb-false words (length u.words) f; name_count = ltb-false names (length u.names) g })

-- a text that is read and fits, and what stands of it in the reader's own room
pub record Whole (text names words : List ℕ) (roomW roomN : ℕ) (sizes : Sizes) : Type 0 where
  pub scenario : Scenario
  pub is : answer_of text roomW roomN ≡ right scenario
  pub count_is : sizes.words ≡ length scenario.words
  pub size_is : sizes.names ≡ length scenario.names
  pub word_room : words ≡ in_room max_words scenario.words
  pub name_room : names ≡ in_room (max_names * name_bytes) scenario.names
  pub few_words : length scenario.words ≤ max_words
  pub few_names : length scenario.names ≤ max_names * name_bytes
  pub words_fit : length scenario.words ≤ roomW
  pub names_fit : length scenario.names ≤ roomN

pub whole : (text names words : List ℕ) (roomW roomN : ℕ) (sizes : Sizes) → FoundAs names words (Ok sizes) (answer_of text roomW roomN) → Whole text names words roomW roomN sizes
whole text names words roomW roomN sizes e =
    let d = done_is names words (answer_of text roomW roomN) sizes e in
    let f = fits roomW roomN (read_of text) d.scenario d.is in
    record {
      scenario = d.scenario;
      is = d.is;
      count_is = ap (λ (z : Sizes). z.words) d.sized;
      size_is = ap (λ (z : Sizes). z.names) d.sized;
      word_room = d.word_room;
      name_room = d.name_room;
      few_words = read_few text d.scenario f.was_read;
      few_names = d.few;
      words_fit = f.word_count;
      names_fit = f.name_count;
    }
