-- One token taken: the line that stands in the room is the line with the token's cell.
use Prim.Native.Nat.{ℕ, ◌+◌, ◌-◌, ◌≤◌}
use mathlib.Core.Path.{◌≡◌, refl, sym, ap, ◌∙◌}
use mathlib.Core.Bool.{Bool, true, false, cond}
use mathlib.Core.List.{List, [], ◌∷◌, ◌++◌, append_assoc}
use native.Mathlib.Omega.{arith}
use lib.ListN.{length, get_or, set, length-append}
use lib.Dec.{eqb, ltb, leb}
use borrow.Author.Tests.{ltb-false}
use Rattle.terms.specs.Cells.{variables, atom_cells, first_variable}
use Rattle.program.specs.Limits.{max_body, max_variable, max_words}
use Rattle.program.specs.Reply.{undeclared, out_of_range, long_atom, bad_variable, both_modes, number_of}
use Rattle.program.specs.declared.reply.Refusal.{Refusal}
use Rattle.text.specs.Room.{in_room}
use Rattle.text.specs.Token.{token_of}
use Rattle.std.specs.Prelude.{Option, Some, None, Ok, Err}
use Rattle.text.specs.declared.token.Token.{Token}
use Rattle.text.specs.declared.token.Token.TheVariants.{Name, Variable}
use Rattle.text.proofs.Rooms.{set_behind}
use Rattle.cells.specs.declared.state.Progress.{Progress}
use Rattle.cells.specs.Symbols.{Symbols}
use Rattle.cells.specs.TextSoFar.{Read}
use Rattle.cells.specs.Cells.{Row, mode_of, symbol_at, named_of, variable_at, start_of, argument_of, look_of, taken_at, Look, fault, symbol, met}
use Rattle.cells.specs.Room.{Stands, TakenAs, row_of, after_symbol, after_variable}

-- what is known of a look, by its answer
abbrev LookWell : Row → Look → Type 0
LookWell r (fault number) = Unit {0}
LookWell r (symbol word arity) = eqb r.wanted 0 ≡ true → r.atoms ≤ max_body
LookWell r (met v g) = (v ≤ max_variable) × (v ≤ r.variables)

symbol_at_well : (r : Row) (arities : List ℕ) (from to n : ℕ) → r.atoms ≤ max_body → LookWell r (symbol_at arities from to n)
symbol_at_well r arities from to n h = go (ltb n to)
  where
    go : (t : Bool) → LookWell r (cond t (symbol (n - from) (get_or arities n 0)) (fault undeclared))
    go true = λ e. h
    go false = tt

variable_at_well : (r : Row) (v : ℕ) (g : Bool) → LookWell r (variable_at r.variables r.modes v g)
variable_at_well r v g = go (ltb max_variable v) refl (ltb r.variables v) refl (ltb v r.variables) (eqb (get_or r.modes v 0) (mode_of g))
  where
    go : (t : Bool) → ltb max_variable v ≡ t → (u : Bool) → ltb r.variables v ≡ u → (w x : Bool)
        → LookWell r (cond t (fault bad_variable) (cond u (fault bad_variable) (cond w (cond x (met v g) (fault both_modes)) (met v g))))
    go true e u f w x = tt
    go false e true f w x = tt
    go false e false f true true = (ltb-false max_variable v e, ltb-false r.variables v f)
    go false e false f true false = tt
    go false e false f false x = (ltb-false max_variable v e, ltb-false r.variables v f)

-- a symbol that starts an atom is none of a 18th; a variable is one of those met, or the next
pub look_well : (t : Symbols) (query : Bool) (r : Row) (s : List ℕ) → LookWell r (look_of t query r s)
look_well t query r s = go (eqb r.wanted 0) refl (token_of query s)
  where
    start : (u : Bool) → ltb max_body r.atoms ≡ u → LookWell r (cond u (fault out_of_range) (named_of t.names t.arities 0 t.predicates s))
    start true e = tt
    start false e = symbol_at_well r t.arities 0 t.predicates _ (ltb-false max_body r.atoms e)

    argument : eqb r.wanted 0 ≡ false → (arities : List ℕ) (from to n : ℕ) → LookWell r (symbol_at arities from to n)
    argument e arities from to n = go (ltb n to)
      where
        go : (t : Bool) → LookWell r (cond t (symbol (n - from) (get_or arities n 0)) (fault undeclared))
        go true = λ f. absurd (let z : ◌≡◌ {A = ℕ} 0 1 = cc in omega arith)
        go false = tt

    go : (u : Bool) → eqb r.wanted 0 ≡ u → (k : Option Token) → LookWell r (cond u (start_of t r.atoms s k) (argument_of t r s k))
    go true e None = tt
    go true e (Some Name) = start (ltb max_body r.atoms) refl
    go true e (Some (Variable g v)) = variable (ltb max_body r.atoms)
      where
        variable : (u : Bool) → LookWell r (cond u (fault out_of_range) (fault undeclared))
        variable true = tt
        variable false = tt
    go false e None = tt
    go false e (Some Name) = cells (leb atom_cells r.cells)
      where
        cells : (u : Bool) → LookWell r (cond u (fault long_atom) (named_of t.names t.arities t.predicates (t.predicates + t.functions) s))
        cells true = tt
        cells false = argument e t.arities t.predicates (t.predicates + t.functions) _
    go false e (Some (Variable g v)) = cells (leb atom_cells r.cells)
      where
        cells : (u : Bool) → LookWell r (cond u (fault long_atom) (variable_at r.variables r.modes v g))
        cells true = tt
        cells false = variable_at_well r v g

module _ {p : Progress} {ms out front modes words : List ℕ} (st : Stands p ms out front modes words) where
  -- a word behind the line's words
  word_behind : (w : ℕ) → set words p.words w ≡ in_room max_words (front ++ (out ++ w ∷ []))
  word_behind w =
      rw (st.word_room, st.place) (set_behind max_words (front ++ out) w ∙ ap (in_room max_words) (append_assoc front out (w ∷ [])))

  place_behind : (w : ℕ) → p.words + 1 ≡ length (front ++ (out ++ w ∷ []))
  place_behind w =
      rw (sym (append_assoc front out (w ∷ [])), length-append (front ++ out) (w ∷ [])) (omega (arith, st.place))

  pub stands_symbol : (word arity : ℕ) → (eqb p.wanted 0 ≡ true → p.atoms ≤ max_body)
      → Stands (after_symbol p arity) ms (out ++ word ∷ []) front modes (set words p.words word)
  stands_symbol word arity few =
      record {
        mode_room = st.mode_room;
        met = st.met;
        few = st.few;
        atom_count = counted (eqb p.wanted 0) refl;
        word_room = word_behind word;
        place = place_behind word;
      }
    where
      counted : (t : Bool) → eqb p.wanted 0 ≡ t → cond t (p.atoms + 1) p.atoms ≤ max_body + 1
      counted true e = omega (arith, few e)
      counted false e = st.atom_count

  pub stands_variable : (v : ℕ) (g : Bool) → v ≤ max_variable → v ≤ p.variables
      → Stands (after_variable p v) (cond (ltb v p.variables) ms (ms ++ mode_of g ∷ [])) (out ++ (first_variable + v) ∷ []) front
      (cond (ltb v p.variables) modes (set modes p.variables (mode_of g))) (set words p.words (first_variable + v))
  stands_variable v g few next =
      record {
        mode_room = modal (ltb v p.variables);
        met = counted (ltb v p.variables);
        few = within (ltb v p.variables) refl;
        atom_count = st.atom_count;
        word_room = word_behind (first_variable + v);
        place = place_behind (first_variable + v);
      }
    where
      modal : (t : Bool) → cond t modes (set modes p.variables (mode_of g)) ≡ in_room variables (cond t ms (ms ++ mode_of g ∷ []))
      modal true = st.mode_room
      modal false = rw (st.mode_room, st.met) (set_behind variables ms (mode_of g))

      counted : (t : Bool) → cond t p.variables (p.variables + 1) ≡ length (cond t ms (ms ++ mode_of g ∷ []))
      counted true = st.met
      counted false = rw (length-append ms (mode_of g ∷ [])) (omega (arith, st.met))

      within : (t : Bool) → ltb v p.variables ≡ t → cond t p.variables (p.variables + 1) ≤ variables
      within true e = st.few
      within false e = omega (arith, ltb-false v p.variables e)

-- the answer for a token, by what was seen of it
module _ (t : Symbols) (query : Bool) (s : List ℕ) {p : Progress} {ms out front modes words : List ℕ} (st : Stands p ms out front modes words) where
  abbrev its : Read Row
  its = taken_at (row_of p ms out) 0 (look_of t query (row_of p ms out) s)

  well : {l : Look} → look_of t query (row_of p ms out) s ≡ l → LookWell (row_of p ms out) l
  well e = rw e at (look_well t query (row_of p ms out) s)

  pub taken_fault : (refusal : Refusal) → look_of t query (row_of p ms out) s ≡ fault (number_of refusal) → TakenAs front modes words (Err refusal) its
  taken_fault refusal e = rw e refl

  pub taken_symbol : (w a : ℕ) (q : Progress) (words' : List ℕ) → look_of t query (row_of p ms out) s ≡ symbol w a
      → q ≡ after_symbol p a → words' ≡ set words p.words w → TakenAs front modes words' (Ok q) its
  taken_symbol w a q words' e f g = rw (e, f, g) (after_symbol p a, refl, refl, stands_symbol st w a (well e))

  pub taken_variable : (v : ℕ) (g : Bool) (q : Progress) (cell : ℕ) (modes' words' : List ℕ) → look_of t query (row_of p ms out) s ≡ met v g
      → q ≡ after_variable p v → (v ≤ max_variable → cell ≡ first_variable + v) → words' ≡ set words p.words cell
      → modes' ≡ cond (ltb v p.variables) modes (set modes p.variables (mode_of g)) → TakenAs front modes' words' (Ok q) its
  taken_variable v g q cell modes' words' e f h k m =
      let w = well e in
      rw (e, f, m, k ∙ ap (set words p.words) (h w.0))
      (after_variable p v, refl, refl, stands_variable st v g w.0 w.1)
