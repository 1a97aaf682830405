-- The cells of a line, token by token: one turn of the loop, and the ends of it.
use Prim.Native.Nat.{ℕ, ◌+◌, ◌≤◌, ◌<◌}
use mathlib.Core.Path.{◌≡◌, refl, sym, ap, ◌∙◌}
use mathlib.Core.Bool.{Bool, true, false, cond, ◌&&◌}
use mathlib.Core.List.{List, [], append-nil}
use native.Mathlib.Omega.{arith}
use lib.ListN.{length, drop}
use lib.Dec.{eqb, ltb}
use borrow.Author.Tests.{le-ltb, ltb-true}
use Rattle.terms.specs.Cells.{variables}
use Rattle.program.specs.Limits.{max_words}
use Rattle.program.specs.Reply.{too_soon, follows, number_of}
use Rattle.program.specs.declared.reply.Refusal.{Refusal}
use Rattle.program.specs.Lists.{between}
use Rattle.text.specs.Room.{in_room}
use Rattle.text.specs.Line.{up_to, behind, tab}
use Rattle.cells.proofs.FieldCuts.{field_within, field_length, behind_next}
use Rattle.cells.specs.declared.state.Progress.{Progress}
use Rattle.cells.specs.declared.state.SymbolRoom.{SymbolRoom}
use Rattle.std.specs.Prelude.{Ok, Err}
use Rattle.cells.specs.Symbols.{Symbols}
use Rattle.cells.specs.TextSoFar.{Read, wrong, right, next}
use Rattle.cells.specs.declared.state.Counts.{Counts}
use Rattle.cells.specs.Cells.{Row, no_cells, look_of, taken_at, with_symbol, with_variable, complete, cells_of, Look, fault, symbol, met}
use Rattle.cells.specs.Room.{Stands, Small, SymbolsHeld, TakenAs, CellsAs, symbols_in, row_of}

-- a line that goes on, as it stands in the room
pub record GoesOn (r : Row) (l : Look) (q : Progress) (front modes words : List ℕ) : Type 0 where
  pub ms : List ℕ
  pub out : List ℕ
  pub on : (place : ℕ) → taken_at r place l ≡ right (row_of q ms out)
  pub stands : Stands q ms out front modes words

module _ (front modes words : List ℕ) where
  -- a token that is a fault is one at its place
  pub taken_wrong : (r : Row) (l : Look) (refusal : Refusal) (place : ℕ) → TakenAs front modes words (Err refusal) (taken_at r 0 l)
      → taken_at r place l ≡ wrong (number_of refusal) place
  taken_wrong r (fault m) refusal place e = ap (λ (k : ℕ). wrong k place) (sym e)
  taken_wrong r (symbol w a) refusal place e = absurd (let f = e.1 in let z : ◌≡◌ {A = ℕ} 0 1 = cc in omega arith)
  taken_wrong r (met v g) refusal place e = absurd (let f = e.1 in let z : ◌≡◌ {A = ℕ} 0 1 = cc in omega arith)

  goes_on : (r row : Row) (l : Look) (q : Progress) → ((place : ℕ) → taken_at r place l ≡ right row)
      → TakenAs front modes words (Ok q) (right row) → GoesOn r l q front modes words
  goes_on r row l q on e =
      let f = e.1 in
      let same : q ≡ e.0 = cc in
      record {
        ms = row.modes;
        out = row.out;
        on = λ place. on place ∙ ap right (rw same e.2);
        stands = rw same e.3;
      }

  pub taken_next : (r : Row) (l : Look) (q : Progress) → TakenAs front modes words (Ok q) (taken_at r 0 l) → GoesOn r l q front modes words
  taken_next r (fault m) q e = absurd e
  taken_next r (symbol w a) q e = goes_on r (with_symbol r w a) (symbol w a) q (λ place. refl) e
  taken_next r (met v g) q e = goes_on r (with_variable r v g) (met v g) q (λ place. refl) e

-- one turn: the separator stands at `at`, and the token behind it ends at e
module _ (t : Symbols) (query : Bool) (line : List ℕ) (base at e : ℕ) (h : at < length line)
    (ends : e ≡ at + 1 + length (up_to tab (drop (at + 1) line))) where
  abbrev token : List ℕ
  token = between line (at + 1) e

  -- the line's cells from the separator on, with the token first
  abbrev Rest : Row → Read Row
  Rest r = cells_of t query r (base + at) (behind tab line at)

  turn : (r : Row) → Rest r
      ≡ cond (query && complete r) (wrong follows (base + at))
      (next (taken_at r (base + at + 1) (look_of t query r token)) (λ r'. cells_of t query r' (base + at + 1 + length token) (behind tab line e)))
  turn r = ap (cells_of t query r (base + at)) (behind_next line at e h ends)

  pub rest_over : (r : Row) → query && complete r ≡ true → Rest r ≡ wrong follows (base + at)
  rest_over r o = turn r ∙ rw o

  pub rest_wrong : (r : Row) (n : ℕ) → query && complete r ≡ false → taken_at r (base + (at + 1)) (look_of t query r token) ≡ wrong n (base + (at + 1))
      → Rest r ≡ wrong n (base + (at + 1))
  rest_wrong r n o w =
      let place : base + at + 1 ≡ base + (at + 1) = omega arith in
      turn r ∙ rw (o, place, w)

  pub rest_on : {front modes words : List ℕ} {q : Progress} (r : Row) → query && complete r ≡ false
      → (g : GoesOn r (look_of t query r token) q front modes words)
      → Rest r ≡ cells_of t query (row_of q g.ms g.out) (base + e) (behind tab line e)
  rest_on {q = q} r o g =
      let w = field_within line at e h ends in
      let place : base + at + 1 + length token ≡ base + e = omega (arith, field_length line at e h ends) in
      turn r ∙ rw (o, g.on (base + at + 1), place)

-- the end of the line
pub rest_none : (t : Symbols) (query : Bool) (line : List ℕ) (base at : ℕ) (r : Row) → length line ≤ at
    → cells_of t query r (base + at) (behind tab line at) ≡ cond (complete r) (right r) (wrong too_soon (base + at))
rest_none t query line base at r h = rw (le-ltb at (length line) h)

-- the line read so far, and what is left of it
pub record Said (t : Symbols) (query : Bool) (line : List ℕ) (from base : ℕ) (front words modes : List ℕ) (p : Progress) (at : ℕ) : Type 0 where
  pub ms : List ℕ
  pub out : List ℕ
  pub stands : Stands p ms out front modes words
  pub rest : cells_of t query no_cells (base + from) (behind tab line from) ≡ cells_of t query (row_of p ms out) (base + at) (behind tab line at)

-- one token more, the one that ends at e
pub said_on : (t : Symbols) (query : Bool) (line : List ℕ) {from : ℕ} (base : ℕ) (front words modes : List ℕ) {words₀ modes₀ : List ℕ} {p : Progress} (q : Progress)
    (at e : ℕ) → at < length line → e ≡ at + 1 + length (up_to tab (drop (at + 1) line))
    → (s : Said t query line from base front words₀ modes₀ p at) → query && complete (row_of p s.ms s.out) ≡ false
    → TakenAs front modes words (Ok q) (taken_at (row_of p s.ms s.out) 0 (look_of t query (row_of p s.ms s.out) (between line (at + 1) e)))
    → Said t query line from base front words modes q e
said_on t query line base front words modes {p = p} q at e h ends s o taken =
    let r = row_of p s.ms s.out in
    let g = taken_next front modes words r (look_of t query r (between line (at + 1) e)) q taken in
    record { ms = g.ms; out = g.out; stands = g.stands; rest = s.rest ∙ rest_on t query line base at e h ends r o g }

-- what holds whenever the loop's test is reached
pub record Turning (line : List ℕ) (from base : ℕ) (query : Bool) (c : Counts) (symbols : SymbolRoom) (words₀ modes₀ : List ℕ) (count : ℕ)
    (words modes : List ℕ) (p : Progress) (at : ℕ) : Type 0 where
  pub past : from ≤ at
  pub within : at ≤ length line
  pub small : Small p
  pub slow : p.words + from ≤ count + at
  pub word_length : length words ≡ length words₀
  pub says : (ns ws front : List ℕ) → SymbolsHeld ns ws c symbols → words₀ ≡ in_room max_words front → count ≡ length front
      → modes₀ ≡ in_room variables [] → Said (symbols_in c ns ws) query line from base front words modes p at

-- before the first token
pub begins : (t : Symbols) (query : Bool) (line : List ℕ) (from base : ℕ) (front words modes : List ℕ) (count : ℕ)
    → words ≡ in_room max_words front → count ≡ length front → modes ≡ in_room variables []
    → Said t query line from base front words modes (record { wanted = 0; cells = 0; atoms = 0; variables = 0; words = count }) from
begins t query line from base front words modes count w n m =
    record {
      ms = [];
      out = [];
      stands =
          record {
            mode_room = m;
            met = refl;
            few = omega arith;
            atom_count = omega arith;
            word_room = rw append-nil w;
            place = rw append-nil n;
          };
      rest = refl;
    }

-- the answer of the line, by what its cells come to
module _ (front modes words : List ℕ) where
  pub as_wrong : (refusal : Refusal) (place : ℕ) (o : Read Row) → o ≡ wrong (number_of refusal) place → CellsAs front modes words (Err (record { refusal = refusal; place = place })) o
  as_wrong refusal place o e = rw e refl

  pub as_right : {p : Progress} {ms out : List ℕ} (o : Read Row) → o ≡ right (row_of p ms out) → Stands p ms out front modes words → CellsAs front modes words (Ok p) o
  as_right {p = p} o e st = rw e (p, refl, refl, st)

-- a complete atom is an atom
pub complete_atoms : (p : Progress) → complete (row_of p [] []) ≡ true → 0 < p.atoms
complete_atoms p e = go (eqb p.wanted 0) e
  where
    go : (t : Bool) → t && ltb 0 p.atoms ≡ true → 0 < p.atoms
    go true e = ltb-true 0 p.atoms e
    go false e = absurd (let z : ◌≡◌ {A = ℕ} 0 1 = cc in omega arith)
