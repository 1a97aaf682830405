-- The lines of a text: one turn of the loop, and its ends.
use Prim.Native.Nat.{ℕ, suc, ◌+◌, ◌-◌, ◌*◌, ◌≤◌, ◌<◌}
use mathlib.Core.Path.{◌≡◌, refl, sym, ap, subst, ◌∙◌}
use mathlib.Core.Bool.{Bool, true, false, cond}
use mathlib.Core.List.{List, [], ◌∷◌}
use native.Mathlib.Omega.{arith}
use native.Mathlib.Numerals.{add-one}
use lib.ListN.{length, get_or, drop, length-take, length-drop, drop_of_length-le}
use lib.Seq.{drop-cons}
use lib.Dec.{eqb}
use borrow.Author.Tests.{lt-ltb, le-ltb}
use Rattle.program.specs.Limits.{max_words}
use Rattle.program.specs.Reply.{too_soon, follows, number_of}
use Rattle.program.specs.Lists.{between}
use Rattle.text.specs.Line.{up_to, parts, onto, behind, tab, line_feed}
use Rattle.text.specs.Name.{name_bytes, max_names}
use Rattle.text.specs.Room.{in_room}
use Rattle.text.proofs.Cuts.{parts_from, part_within}
use Rattle.cells.specs.declared.state.Counts.{Counts}
use Rattle.cells.specs.declared.state.SymbolRoom.{SymbolRoom}
use Rattle.declarations.specs.declared.lined.Lined.{Lined}
use Rattle.declarations.specs.declared.lined.Lined.TheVariants.{More, Last}
use Rattle.declarations.specs.declared.lined.Sizes.{Sizes}
use Rattle.std.specs.Prelude.{Result, Ok, Err}
use Rattle.program.specs.declared.reply.Fault.{Fault}
use Rattle.cells.specs.TextSoFar.{TextSoFar, Read, wrong, right, nothing, Scenario, Line, more, last}
use Rattle.text_lines.specs.Lines.{fields_of, ending, lines_of, all_lines}
use Rattle.declarations.specs.Held.{text_so_far, Holds, LinedAs, Limited, sizes_of}
use Rattle.reader.specs.Found.{FoundAs}

-- what a line that ends in LF comes to, and then the others
abbrev pub after_line : Read Line → ℕ → List ℕ → List (List ℕ) → Read Scenario
after_line (wrong number place) at m ls = wrong number place
after_line (right (more t)) at m ls = lines_of t at m ls
after_line (right (last s)) at m ls = ending s at m ls

pub lines_of_more : (t : TextSoFar) (at : ℕ) (l m : List ℕ) (ls : List (List ℕ)) → lines_of t at l (m ∷ ls) ≡ after_line (fields_of t at (parts tab l)) (at + length l + 1) m ls
lines_of_more t at l m ls = go (fields_of t at (parts tab l))
  where
    go : (o : Read Line)
        → elim o as (λ x. Read Scenario) [
          | wrong number place ↦ wrong number place
          | right (more t') ↦ lines_of t' (at + length l + 1) m ls
          | right (last s) ↦ ending s (at + length l + 1) m ls
        ] ≡ after_line o (at + length l + 1) m ls
    go (wrong number place) = refl
    go (right (more t')) = refl
    go (right (last s)) = refl

-- there is a part always
abbrev Some : List (List ℕ) → Type 0
Some [] = ⊥
Some (p ∷ ps) = Unit {0}

some_parts : (xs : List ℕ) → Some (parts line_feed xs)
some_parts [] = tt
some_parts (x ∷ xs) = by (eqb x line_feed) (parts line_feed xs)
  where
    by : (t : Bool) (ps : List (List ℕ)) → Some (cond t ([] ∷ ps) (onto x ps))
    by true ps = tt
    by false [] = tt
    by false (p ∷ ps) = tt

-- something stands behind the query's LF
more_follows : (s : Scenario) (at x : ℕ) (xs m : List ℕ) (ls : List (List ℕ)) → parts line_feed (x ∷ xs) ≡ m ∷ ls → ending s at m ls ≡ wrong follows at
more_follows s at x xs m ls e = go (eqb x line_feed) (parts line_feed xs) (some_parts xs) m ls e
  where
    go : (t : Bool) (ps : List (List ℕ)) → Some ps → (m : List ℕ) (ls : List (List ℕ)) → cond t ([] ∷ ps) (onto x ps) ≡ m ∷ ls → ending s at m ls ≡ wrong follows at
    go true [] h m ls e = absurd h
    go true (p ∷ ps) h [] [] e = absurd (let n : ◌≡◌ {A = ℕ} 0 1 = cc in omega arith)
    go true (p ∷ ps) h [] (l ∷ ls) e = refl
    go true (p ∷ ps) h (b ∷ bs) ls e = refl
    go false [] h m ls e = absurd h
    go false (p ∷ ps) h [] ls e = absurd (let n : ◌≡◌ {A = ℕ} 0 1 = cc in omega arith)
    go false (p ∷ ps) h (b ∷ bs) ls e = refl

-- one turn: the line from `at` ends at e
module _ (text : List ℕ) (at e : ℕ) (h : at ≤ length text) (ends : e ≡ at + length (up_to line_feed (drop at text))) where
  abbrev line : List ℕ
  line = between text at e

  pub line_within : e ≤ length text
  line_within = part_within line_feed text at e h ends

  pub line_length : length line ≡ e - at
  line_length = let w = line_within in simp (length-take, length-drop) (omega arith)

  -- the lines from `at` on, behind a text so far
  abbrev From : TextSoFar → Read Scenario
  From t = all_lines t at (parts line_feed (drop at text))

  lines_first : parts line_feed (drop at text) ≡ line ∷ behind line_feed text e
  lines_first = parts_from line_feed text at e h ends

  pub text_none : (t : TextSoFar) → length text ≤ e → From t ≡ wrong too_soon e
  text_none t k =
      let n : at + length line ≡ e = omega (arith, line_length) in
      let none : behind line_feed text e ≡ [] = rw (le-ltb e (length text) k) in
      ap (all_lines t at) (lines_first ∙ ap (λ (l : List (List ℕ)). line ∷ l) none) ∙ ap (wrong too_soon) n

  module _ (k : e < length text) where
    abbrev e₂ : ℕ
    e₂ = e + 1 + length (up_to line_feed (drop (e + 1) text))

    abbrev line₂ : List ℕ
    line₂ = between text (e + 1) e₂

    second : parts line_feed (drop (e + 1) text) ≡ line₂ ∷ behind line_feed text e₂
    second = parts_from line_feed text (e + 1) e₂ (omega arith) refl

    lines_both : parts line_feed (drop at text) ≡ line ∷ line₂ ∷ behind line_feed text e₂
    lines_both =
        lines_first ∙ ap (λ (l : List (List ℕ)). line ∷ l) (rw (lt-ltb e (length text) k, sym (add-one e)) second)

    turn : (t : TextSoFar) → From t ≡ after_line (fields_of t at (parts tab line)) (e + 1) line₂ (behind line_feed text e₂)
    turn t =
        let n : at + length line + 1 ≡ e + 1 = omega (arith, line_length) in
        ap (all_lines t at) lines_both ∙ lines_of_more t at line line₂ (behind line_feed text e₂)
        ∙ ap (λ (p : ℕ). after_line (fields_of t at (parts tab line)) p line₂ (behind line_feed text e₂)) n

    pub text_wrong : (t : TextSoFar) (number place : ℕ) → fields_of t at (parts tab line) ≡ wrong number place → From t ≡ wrong number place
    text_wrong t number place f = turn t ∙ rw f

    pub text_more : (t t' : TextSoFar) → fields_of t at (parts tab line) ≡ right (more t') → From t ≡ all_lines t' (e + 1) (parts line_feed (drop (e + 1) text))
    text_more t t' f = turn t ∙ rw f (sym (ap (all_lines t' (e + 1)) second))

    pub text_last : (t : TextSoFar) (s : Scenario) → fields_of t at (parts tab line) ≡ right (last s) → length text ≤ e + 1 → From t ≡ right s
    text_last t s f n =
        turn t ∙ rw f (nothing_left (sym second ∙ ap (parts line_feed) (drop_of_length-le text n)))
      where
        nothing_left : {m : List ℕ} {ls : List (List ℕ)} → m ∷ ls ≡ [] ∷ [] → ending s (e + 1) m ls ≡ right s
        nothing_left {m} {ls} q = let a : m ≡ [] = cc in let b : ls ≡ [] = cc in rw (a, b)

    pub text_follows : (t : TextSoFar) (s : Scenario) → fields_of t at (parts tab line) ≡ right (last s) → e + 1 < length text → From t ≡ wrong follows (e + 1)
    text_follows t s f n =
        turn t ∙ rw f (more_follows s (e + 1) (get_or text (e + 1) 0) (drop (suc (e + 1)) text) line₂ (behind line_feed text e₂) (sym (ap (parts line_feed) (drop-cons text (e + 1) 0 n)) ∙ second))

-- the answer for a line, by its case
pub record Came (o : Read Line) (c : Counts) (symbols : SymbolRoom) (words : List ℕ) : Type 0 where
  pub ns : List ℕ
  pub ws : List ℕ
  pub is : o ≡ right (more (text_so_far c ns ws))
  pub holds : Holds ns ws c symbols words

pub record Ended (o : Read Line) (sizes : Sizes) (names words : List ℕ) : Type 0 where
  pub scenario : Scenario
  pub is : o ≡ right (last scenario)
  pub sized : sizes ≡ sizes_of scenario
  pub word_room : words ≡ in_room max_words scenario.words
  pub name_room : names ≡ in_room (max_names * name_bytes) scenario.names
  pub few : length scenario.names ≤ max_names * name_bytes

abbrev counts_of : Result Lined Fault → Counts → Counts
counts_of (Err _) d = d
counts_of (Ok (More c)) d = c
counts_of (Ok (Last sizes)) d = d

abbrev kind_of_answer : Result Lined Fault → ℕ
kind_of_answer (Err _) = 0
kind_of_answer (Ok (More c)) = 1
kind_of_answer (Ok (Last sizes)) = 2

module _ (symbols : SymbolRoom) (words : List ℕ) where
  pub lined_is_wrong : (o : Read Line) (fault : Fault) → LinedAs symbols words (Err fault) o → o ≡ wrong (number_of fault.refusal) fault.place
  lined_is_wrong (wrong n p) fault e = let number : n ≡ number_of fault.refusal = cc in let place : p ≡ fault.place = cc in λ i. wrong (number i) (place i)
  lined_is_wrong (right (more t)) fault e = absurd (let z : ◌≡◌ {A = ℕ} 0 1 = ap kind_of_answer e.1 in omega arith)
  lined_is_wrong (right (last s)) fault e = absurd (let z : ◌≡◌ {A = ℕ} 0 2 = ap kind_of_answer e.0 in omega arith)

  came : (t : TextSoFar) (c d : Counts) → d ≡ c → t ≡ text_so_far d t.names t.words → Holds t.names t.words d symbols words
      → Came (right (more t)) c symbols words
  came t c d same is holds =
      subst (λ (k : Counts). Came (right (more t)) k symbols words) same
      (record { ns = t.names; ws = t.words; is = ap (λ (u : TextSoFar). right (more u)) is; holds = holds })

  pub lined_is_more : (o : Read Line) (c : Counts) → LinedAs symbols words (Ok (More c)) o → Came o c symbols words
  lined_is_more (wrong n p) c e = absurd (let z : ◌≡◌ {A = ℕ} 0 1 = cc in omega arith)
  lined_is_more (right (more t)) c e = came t c e.0 (sym (ap (λ (r : Result Lined Fault). counts_of r c) e.1)) e.2 e.3
  lined_is_more (right (last s)) c e = absurd (let z : ◌≡◌ {A = ℕ} 1 2 = ap kind_of_answer e.0 in omega arith)

  pub lined_is_last : (o : Read Line) (sizes : Sizes) → LinedAs symbols words (Ok (Last sizes)) o → Ended o sizes symbols.names words
  lined_is_last (wrong n p) sizes e = absurd (let z : ◌≡◌ {A = ℕ} 0 1 = cc in omega arith)
  lined_is_last (right (more t)) sizes e = absurd (let z : ◌≡◌ {A = ℕ} 2 1 = ap kind_of_answer e.1 in omega arith)
  lined_is_last (right (last s)) sizes e =
      let f = e.0 in
      record { scenario = s; is = refl; sized = cc; word_room = e.1; name_room = e.2; few = e.3 }

-- the text read so far, and what is left of it
pub record Left (text : List ℕ) (c : Counts) (at : ℕ) (symbols : SymbolRoom) (words : List ℕ) : Type 0 where
  pub ns : List ℕ
  pub ws : List ℕ
  pub holds : Holds ns ws c symbols words
  pub rest : all_lines nothing 0 (parts line_feed text) ≡ all_lines (text_so_far c ns ws) at (parts line_feed (drop at text))

-- what holds whenever a line begins
pub record Reading (text : List ℕ) (symbols₀ : SymbolRoom) (words₀ : List ℕ) (symbols : SymbolRoom) (words : List ℕ) (c : Counts) (at : ℕ) : Type 0 where
  pub within : at ≤ length text
  pub slow : c.words ≤ at + 3
  pub limited : Limited c
  pub word_length : length words ≡ length words₀
  pub says : symbols₀.names ≡ in_room (max_names * name_bytes) [] → words₀ ≡ in_room max_words [] → Left text c at symbols words

-- before the first line
pub nothing_read : (text : List ℕ) (symbols : SymbolRoom) (words : List ℕ) → symbols.names ≡ in_room (max_names * name_bytes) [] → words ≡ in_room max_words []
    → Left text (record { predicates = 0; functions = 0; clauses = 0; words = 3 }) 0 symbols words
nothing_read text symbols words e f =
    record {
      ns = [];
      ws = [];
      holds =
          record {
            kept = record { named = e; sized = refl; arity = λ n h. absurd (omega arith); hashed = λ k l h. absurd (omega arith) };
            word_room = f;
            place = refl;
            enough = omega arith;
            declared = λ z. refl;
          };
      rest = refl;
    }

-- the answer for a text, by what its lines come to
pub found_wrong : (names words : List ℕ) (fault : Fault) (o : Read Scenario) → o ≡ wrong (number_of fault.refusal) fault.place → FoundAs names words (Err fault) o
found_wrong names words fault o e = rw e refl

pub found_right : (names words : List ℕ) (l : Read Line) (sizes : Sizes) (o : Read Scenario) (e : Ended l sizes names words) → o ≡ right e.scenario
    → FoundAs names words (Ok sizes) o
found_right names words l sizes o e f = rw f (ap Ok e.sized, e.word_room, e.name_room, e.few)
