-- Declaration lines: the text that stands in the room is the text with the declaration.
use Prim.Native.Nat.{ℕ, ◌+◌, ◌<◌}
use mathlib.Core.Path.{◌≡◌, refl, sym, ◌∙◌}
use mathlib.Core.List.{List, [], ◌∷◌, ◌++◌}
use native.Mathlib.Omega.{arith}
use mathlib.Core.Bool.{Bool, true, false, ◌&&◌}
use lib.Dec.{ltb}
use borrow.Author.Tests.{ltb-true}
use lib.ListN.{length, set, length-append}
use Rattle.program.specs.Limits.{max_words, max_declared}
use Rattle.text.specs.Room.{in_room}
use Rattle.text.specs.Name.{max_names, padded}
use Rattle.text.proofs.Rooms.{set_behind}
use Rattle.cells.specs.declared.state.Counts.{Counts}
use Rattle.cells.specs.declared.state.SymbolRoom.{SymbolRoom}
use Rattle.std.specs.Prelude.{Result, Ok, Err}
use Rattle.program.specs.declared.reply.Fault.{Fault}
use Rattle.declarations.specs.declared.lined.Lined.{Lined}
use Rattle.declarations.specs.declared.lined.Lined.TheVariants.{More}
use Rattle.program.specs.Reply.{ill_formed, number_of}
use Rattle.cells.specs.TextSoFar.{Read, wrong, right, reading_of, func_section, TextSoFar, nothing, later, one_more}
use Rattle.declarations.specs.Declarations.{two, declared, declaration_line}
use Rattle.cells.specs.Room.{Few}
use Rattle.declarations.specs.Added.{Added}
use Rattle.declarations.specs.Held.{lines_in, text_so_far, Holds, LinedAs, more_of}
use Rattle.declarations.proofs.Symbols.{kept_more}

-- a word behind those that stand behind room for the counts
word_last : (ws words : List ℕ) (place w : ℕ) → words ≡ in_room max_words (nothing.lines ++ ws) → place ≡ length nothing.lines + length ws
    → set words place w ≡ in_room max_words (nothing.lines ++ (ws ++ w ∷ []))
word_last ws words place w e f =
    let n : place ≡ length (nothing.lines ++ ws) = omega arith in
    rw (n, e) (set_behind max_words (nothing.lines ++ ws) w)

module _ (ns ws : List ℕ) (c c' : Counts) (symbols : SymbolRoom) (words : List ℕ) (symbols' : SymbolRoom) (words' : List ℕ) (name : List ℕ) (n : ℕ)
    (room : Few c) (holds : Holds ns ws c symbols words)
    (number : n ≡ c.predicates + c.functions) (more : c'.predicates + c'.functions ≡ n + 1) (few : n < max_names)
    (none : later (lines_in c) func_section ≡ 0) (section : ℕ) (grown : lines_in c' ≡ one_more (lines_in c) section) (behind : c'.words ≡ c.words + 1) where
  holds_more : (arity : ℕ) → Added name arity n c.words symbols words symbols' words'
      → Holds (ns ++ padded name) (ws ++ arity ∷ []) c' symbols' words'
  holds_more arity add =
      let exact : length ws ≡ n = holds.declared none ∙ sym number in
      let size = length-append ws (arity ∷ []) in
      record {
        kept = kept_more ns ws c c' symbols words symbols' words' name arity n c.words room holds.kept add number more few exact;
        word_room = add.word ∙ word_last ws words c.words arity holds.word_room holds.place;
        place = omega (arith, size, holds.place);
        enough = omega (arith, size);
        declared = λ e. omega (arith, size);
      }

  pub lined_symbol : (d : Read ℕ) (arity : ℕ) → d ≡ right arity → Added name arity n c.words symbols words symbols' words'
      → LinedAs symbols' words' (Ok (More c')) (more_of (declared (text_so_far c ns ws) section name d))
  lined_symbol d arity e add =
      rw e (c', refl, (λ i. record { lines = sym grown i; names = ns ++ padded name; words = ws ++ arity ∷ [] }), holds_more arity add)

pub lined_fault : (ns ws : List ℕ) (c : Counts) (section : ℕ) (symbols : SymbolRoom) (words name : List ℕ) (d : Read ℕ) (fault : Fault)
    → d ≡ wrong (number_of fault.refusal) fault.place → LinedAs symbols words (Err fault) (more_of (declared (text_so_far c ns ws) section name d))
lined_fault ns ws c section symbols words name d fault e = rw e refl

-- not exactly three fields
pub declaration_wrong : (t : TextSoFar) (section from at : ℕ) (ss : List (List ℕ))
    → ((place : ℕ) (f : List ℕ → List ℕ → Read TextSoFar) → two place ss f ≡ wrong ill_formed place) → declaration_line t section from at ss ≡ wrong ill_formed at
declaration_wrong t section from at ss w = w at _

-- a line's answer, by what the text so far comes to with it
pub lined_wrong : (symbols : SymbolRoom) (words : List ℕ) (o : Read TextSoFar) (r : Result Lined Fault) {number place : ℕ} → reading_of r ≡ wrong number place → o ≡ wrong number place
    → LinedAs symbols words r (more_of o)
lined_wrong symbols words o r f e = rw e f

-- there is a predicate, and one more of the kind may come
pub open_few : (predicates count : ℕ) → ltb 0 predicates && ltb count max_declared ≡ true → (0 < predicates) × (count < max_declared)
open_few predicates count e = go (ltb 0 predicates) refl e
  where
    go : (t : Bool) → ltb 0 predicates ≡ t → t && ltb count max_declared ≡ true → (0 < predicates) × (count < max_declared)
    go true f e = (ltb-true 0 predicates f, ltb-true count max_declared e)
    go false f e = absurd (let z : ◌≡◌ {A = ℕ} 0 1 = cc in omega arith)
