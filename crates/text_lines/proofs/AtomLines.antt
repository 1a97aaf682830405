-- Clause and query lines: the text that stands in the room is the text with the line.
use Prim.Native.Nat.{ℕ, ◌+◌, ◌-◌, ◌*◌, ◌<◌}
use mathlib.Core.Path.{◌≡◌, refl, sym, ap, ◌∙◌}
use mathlib.Core.List.{List, [], ◌∷◌, ◌++◌, append_assoc}
use native.Mathlib.Omega.{arith}
use lib.ListN.{length, set, length-append, get_or-append}
use Rattle.program.specs.Limits.{max_words}
use Rattle.text.specs.Room.{in_room}
use Rattle.text.specs.Name.{name_bytes}
use Rattle.text.proofs.Rooms.{set_behind, set_within}
use Rattle.cells.specs.declared.state.Counts.{Counts}
use Rattle.cells.specs.declared.state.SymbolRoom.{SymbolRoom}
use Rattle.cells.specs.declared.state.Progress.{Progress}
use Rattle.std.specs.Prelude.{Ok, Err}
use Rattle.program.specs.Reply.{number_of}
use Rattle.program.specs.declared.reply.Fault.{Fault}
use Rattle.declarations.specs.declared.lined.Lined.TheVariants.{More, Last}
use Rattle.cells.specs.TextSoFar.{Read, wrong, right, next, nothing}
use Rattle.cells.specs.Cells.{Row}
use Rattle.text_lines.specs.Lines.{with_clause, with_goal}
use Rattle.cells.specs.Room.{SymbolsHeld, Stands, CellsAs, row_of}
use Rattle.declarations.specs.Held.{lines_in, text_so_far, Holds, LinedAs, Limited, more_of}
use Rattle.text_lines.specs.Goal.{GoalPut, last_of}

-- the counts over the room that was left for them
pub counts_put : (room : ℕ) (words xs : List ℕ) (p f c : ℕ) → words ≡ in_room room (nothing.lines ++ xs)
    → set (set (set words 0 p) 1 f) 2 c ≡ in_room room (p ∷ f ∷ c ∷ xs)
counts_put room words xs p f c e =
    ap (λ (l : List ℕ). set (set (set l 0 p) 1 f) 2 c) e
    ∙ ap (λ (l : List ℕ). set (set l 1 f) 2 c) (set_within room [] 0 (0 ∷ 0 ∷ xs) p)
    ∙ ap (λ (l : List ℕ). set l 2 c) (set_within room (p ∷ []) 0 (0 ∷ xs) f)
    ∙ set_within room (p ∷ f ∷ []) 0 xs c

-- a line whose cells were read
pub record Through (o : Read Row) (p : Progress) (front modes words : List ℕ) : Type 0 where
  pub ms : List ℕ
  pub out : List ℕ
  pub is : o ≡ right (row_of p ms out)
  pub stands : Stands p ms out front modes words

module _ (front modes words : List ℕ) where
  pub cells_fault : (o : Read Row) (fault : Fault) → CellsAs front modes words (Err fault) o → o ≡ wrong (number_of fault.refusal) fault.place
  cells_fault (wrong m q) fault e = let number : m ≡ number_of fault.refusal = cc in let place : q ≡ fault.place = cc in λ i. wrong (number i) (place i)
  cells_fault (right r) fault e = absurd (let f = e.1 in let z : ◌≡◌ {A = ℕ} 0 1 = cc in omega arith)

  pub cells_done : (o : Read Row) (p : Progress) → CellsAs front modes words (Ok p) o → Through o p front modes words
  cells_done (wrong m q) p e = absurd (let z : ◌≡◌ {A = ℕ} 0 1 = cc in omega arith)
  cells_done (right r) p e =
      let f = e.1 in
      let same : p ≡ e.0 = cc in
      record { ms = r.modes; out = r.out; is = ap right (rw same e.2); stands = rw same e.3 }

module _ (ns ws : List ℕ) (c : Counts) (symbols : SymbolRoom) (words : List ℕ) (holds : Holds ns ws c symbols words) where
  -- the words behind the arities change no arity
  kept_behind : (c' : Counts) (xs : List ℕ) → c'.predicates ≡ c.predicates → c'.functions ≡ c.functions → SymbolsHeld ns (ws ++ xs) c' symbols
  kept_behind c' xs e f =
      record {
        named = holds.kept.named;
        sized = rw (e, f) holds.kept.sized;
        arity = λ n h. let k : n < c.predicates + c.functions = omega arith in
            holds.kept.arity n k ∙ sym (get_or-append ws xs 0 n (omega (arith, holds.enough)));
        hashed = λ k l h. holds.kept.hashed k l (omega arith);
      }

  -- room for the body length
  pub length_room : set words c.words 0 ≡ in_room max_words ((nothing.lines ++ ws) ++ 0 ∷ [])
  length_room =
      let n : c.words ≡ length (nothing.lines ++ ws) = omega (arith, holds.place) in
      rw (n, holds.word_room) (set_behind max_words (nothing.lines ++ ws) 0)

  pub length_place : c.words + 1 ≡ length ((nothing.lines ++ ws) ++ 0 ∷ [])
  length_place = omega (arith, length-append (nothing.lines ++ ws) (0 ∷ []), holds.place)

  module _ (o : Read Row) (p : Progress) (modes words' : List ℕ) (through : Through o p ((nothing.lines ++ ws) ++ 0 ∷ []) modes words') where
    -- the body length in the room that was left for it
    length_put : (m : ℕ) → set words' c.words m ≡ in_room max_words (nothing.lines ++ (ws ++ m ∷ through.out))
    length_put m =
        let n : c.words ≡ length (nothing.lines ++ ws) = omega (arith, holds.place) in
        let e = through.stands.word_room ∙ ap (in_room max_words) (append_assoc (nothing.lines ++ ws) (0 ∷ []) through.out) in
        rw (n, e) (set_within max_words (nothing.lines ++ ws) 0 through.out m)

    pub lined_clause : (m : ℕ) (words'' : List ℕ) → m ≡ p.atoms - 1 → words'' ≡ set words' c.words m
        → LinedAs symbols words'' (Ok (More (record { predicates = c.predicates; functions = c.functions; clauses = c.clauses + 1; words = p.words })))
        (more_of (next o (λ r. right (with_clause (text_so_far c ns ws) r))))
    lined_clause m words'' e f =
        let c' : Counts = record { predicates = c.predicates; functions = c.functions; clauses = c.clauses + 1; words = p.words } in
        let size = length-append ws (m ∷ through.out) in
        let size' = length-append ((nothing.lines ++ ws) ++ 0 ∷ []) through.out in
        let size'' = length-append (nothing.lines ++ ws) (0 ∷ []) in
        rw (through.is, sym e) (
          c',
          refl,
          refl,
          record {
            kept = kept_behind c' (m ∷ through.out) refl refl;
            word_room = f ∙ length_put m;
            place = omega (arith, through.stands.place);
            enough = omega (arith, holds.enough);
            declared = λ z. absurd (omega arith);
          },
        )

-- the goal's cells, its variable count and its modes, one behind another
goal_shape : (ws out ms : List ℕ) (k : ℕ) → ((nothing.lines ++ ws) ++ out ++ k ∷ []) ++ ms ≡ nothing.lines ++ (ws ++ out ++ k ∷ ms)
goal_shape ws out ms k = ap (λ (l : List ℕ). nothing.lines ++ l) (append_assoc (ws ++ out) (k ∷ []) ms)

module _ (c : Counts) {p : Progress} {ws ms out modes words : List ℕ} (st : Stands p ms out (nothing.lines ++ ws) modes words) where
  abbrev goal_words : List ℕ
  goal_words = lines_in c ++ (ws ++ out ++ p.variables ∷ ms)

  pub goal_words_law : (words₁ words₂ words₃ : List ℕ) → words₁ ≡ set words p.words p.variables
      → ((xs : List ℕ) → words₁ ≡ in_room max_words xs → p.words + 1 ≡ length xs → words₂ ≡ in_room max_words (xs ++ ms))
      → ((xs : List ℕ) → words₂ ≡ in_room max_words (nothing.lines ++ xs) → words₃ ≡ in_room max_words (lines_in c ++ xs))
      → words₃ ≡ in_room max_words goal_words
  goal_words_law words₁ words₂ words₃ e modal counted =
      let front = (nothing.lines ++ ws) ++ out ++ p.variables ∷ [] in
      let one : words₁ ≡ in_room max_words front =
      e ∙ ap (λ (l : List ℕ). set l p.words p.variables) st.word_room
      ∙ ap (λ (n : ℕ). set (in_room max_words ((nothing.lines ++ ws) ++ out)) n p.variables) st.place
      ∙ set_behind max_words ((nothing.lines ++ ws) ++ out) p.variables in
      let size : p.words + 1 ≡ length front =
      omega (arith, st.place, length-append ((nothing.lines ++ ws) ++ out) (p.variables ∷ [])) in
      counted (ws ++ out ++ p.variables ∷ ms) (modal front one size ∙ ap (in_room max_words) (goal_shape ws out ms p.variables))

  pub goal_count : p.words + 1 + p.variables ≡ length goal_words
  goal_count =
      omega (arith, st.place, st.met, length-append (ws ++ out) (p.variables ∷ ms))

pub lined_goal : (ns ws : List ℕ) (c : Counts) (symbols : SymbolRoom) (words : List ℕ) → Limited c → SymbolsHeld ns ws c symbols
    → (o : Read Row) (p : Progress) (ms out : List ℕ) → o ≡ right (row_of p ms out) → (count size : ℕ) → GoalPut c p ws ms out words count
    → size ≡ (c.predicates + c.functions) * name_bytes
    → LinedAs symbols words (Ok (Last (record { words = count; names = size }))) (last_of (next o (λ r. right (with_goal (text_so_far c ns ws) r))))
lined_goal ns ws c symbols words few kept o p ms out e count size g f =
    rw (e, g.counted, f ∙ sym kept.sized) (refl, g.all, kept.named, omega (arith, kept.sized, few))
