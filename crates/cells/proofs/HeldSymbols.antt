-- What the lists in the room say is what the declared symbols and the line say: a look at a token comes to the same.
use Prim.Native.Nat.{ℕ, zero, suc, ◌+◌, ◌-◌, ◌*◌, ◌≤◌, ◌<◌}
use mathlib.Core.Path.{◌≡◌, refl, sym, ap, ◌∙◌}
use mathlib.Core.Bool.{Bool, true, false, cond}
use mathlib.Core.List.{List, [], ◌∷◌, ◌++◌, append_assoc}
use native.Mathlib.Omega.{arith}
use lib.ListN.{length, get_or, take, drop, set, length-drop, length-append}
use lib.Seq.{take-suc, take_all, length-take-le}
use native.Mathlib.Numerals.{add-one}
use lib.Dec.{eqb, ltb, leb}
use borrow.Author.Tests.{ltb-true, ltb-false}
use Rattle.terms.specs.Cells.{variables, atom_cells}
use Rattle.program.specs.Limits.{max_body, max_variable}
use Rattle.program.specs.Reply.{undeclared, out_of_range, long_atom}
use Rattle.text.specs.Room.{in_room}
use Rattle.text.specs.Name.{name_bytes, max_names, entry, padded, same, seek}
use Rattle.text.specs.Token.{token_of}
use Rattle.std.specs.Prelude.{Option, Some, None}
use Rattle.text.specs.declared.token.Token.{Token}
use Rattle.text.specs.declared.token.Token.TheVariants.{Name, Variable}
use Rattle.text.proofs.Rooms.{drop_in_room, take_in_room, get_d_in_room, set_behind}
use Rattle.cells.specs.declared.state.Counts.{Counts}
use Rattle.cells.specs.declared.state.Progress.{Progress}
use Rattle.cells.specs.declared.state.SymbolRoom.{SymbolRoom}
use Rattle.cells.specs.Cells.{symbol_at, named_of, variable_at, start_of, argument_of, look_of, Look, fault, symbol}
use Rattle.cells.specs.Room.{SymbolsHeld, Few, symbols_in, row_of}

-- a name that is there stands in the room as it was put
pub entry_kept : (room : ℕ) (ns : List ℕ) (k : ℕ) → k * name_bytes + name_bytes ≤ length ns → length ns ≤ room → entry (in_room room ns) k ≡ entry ns k
entry_kept room ns k h fits =
    ap (take name_bytes) (drop_in_room room ns (k * name_bytes))
    ∙ take_in_room (room - k * name_bytes) (drop (k * name_bytes) ns) name_bytes (omega arith) (omega (arith, length-drop (k * name_bytes) ns))

pub seek_alike : (a b key : List ℕ) (i n : ℕ) → ((k : ℕ) → i ≤ k → k < i + n → entry a k ≡ entry b k) → seek a key i n ≡ seek b key i n
seek_alike a b key i zero h = refl
seek_alike a b key i (suc n) h =
    rw (h i (omega arith) (omega arith)) (ap (cond (same (entry b i) key) i) (seek_alike a b key (suc i) n (λ k h₁ h₂. h k (omega arith) (omega arith))))

symbol_at_alike : (a b : List ℕ) (from to n : ℕ) → ((k : ℕ) → k < to → get_or a k 0 ≡ get_or b k 0) → symbol_at a from to n ≡ symbol_at b from to n
symbol_at_alike a b from to n h = go (ltb n to) refl
  where
    go : (t : Bool) → ltb n to ≡ t → cond t (symbol (n - from) (get_or a n 0)) (fault undeclared) ≡ cond t (symbol (n - from) (get_or b n 0)) (fault undeclared)
    go true e = ap (symbol (n - from)) (h n (ltb-true n to e))
    go false e = refl

variable_at_alike : (seen : ℕ) (ms : List ℕ) (v : ℕ) (g : Bool) → variable_at seen (in_room variables ms) v g ≡ variable_at seen ms v g
variable_at_alike seen ms v g = go (ltb max_variable v) refl
  where
    go : (t : Bool) → ltb max_variable v ≡ t → variable_at seen (in_room variables ms) v g ≡ variable_at seen ms v g
    go true e = rw e
    go false e = rw (e, get_d_in_room variables ms v (omega (arith, ltb-false max_variable v e)))

named_of_alike : (a a' b b' : List ℕ) (from to : ℕ) (s : List ℕ) → from ≤ to
    → ((k : ℕ) → k < to → entry a k ≡ entry a' k) → ((k : ℕ) → k < to → get_or b k 0 ≡ get_or b' k 0)
    → named_of a b from to s ≡ named_of a' b' from to s
named_of_alike a a' b b' from to s h names arities =
    ap (symbol_at b from to) (seek_alike a a' (padded s) from (to - from) (λ k h₁ h₂. names k (omega arith)))
    ∙ symbol_at_alike b b' from to (seek a' (padded s) from (to - from)) arities

-- a look at a token through the room is a look at it through the declared symbols and the line
module _ (ns ws : List ℕ) (c : Counts) (symbols : SymbolRoom) (room : Few c)
    (kept : SymbolsHeld ns ws c symbols) where
  pub entries : (k : ℕ) → k < c.predicates + c.functions → entry symbols.names k ≡ entry ns k
  entries k h =
      ap (λ (l : List ℕ). entry l k) kept.named
      ∙ entry_kept (max_names * name_bytes) ns k (omega (arith, kept.sized)) (omega (arith, kept.sized, room.few_predicates, room.few_functions))

  pub look_of_kept : (query : Bool) (p : Progress) (ms out s : List ℕ)
      → look_of (symbols_in c symbols.names symbols.arities) query (row_of p (in_room variables ms) []) s ≡ look_of (symbols_in c ns ws) query (row_of p ms out) s
  look_of_kept query p ms out s = go (eqb p.wanted 0) (token_of query s)
    where
      go : (t : Bool) (k : Option Token)
          → cond t (start_of (symbols_in c symbols.names symbols.arities) p.atoms s k) (argument_of (symbols_in c symbols.names symbols.arities) (row_of p (in_room variables ms) []) s k)
          ≡ cond t (start_of (symbols_in c ns ws) p.atoms s k) (argument_of (symbols_in c ns ws) (row_of p ms out) s k)
      go true None = refl
      go true (Some Name) =
          ap (cond (ltb max_body p.atoms) (fault out_of_range))
          (named_of_alike symbols.names ns symbols.arities ws 0 c.predicates s (omega arith) (λ k h. entries k (omega arith)) (λ k h. kept.arity k (omega arith)))
      go true (Some (Variable g v)) = refl
      go false None = refl
      go false (Some Name) =
          ap (cond (leb atom_cells p.cells) (fault long_atom))
          (named_of_alike symbols.names ns symbols.arities ws c.predicates (c.predicates + c.functions) s (omega arith) entries kept.arity)
      go false (Some (Variable g v)) = ap (cond (leb atom_cells p.cells) (fault long_atom)) (variable_at_alike p.variables ms v g)

  -- the same, where the line stands in the room
  pub look_of_stands : (query : Bool) (p : Progress) (ms out modes s : List ℕ) (l : Look) → modes ≡ in_room variables ms
      → l ≡ look_of (symbols_in c symbols.names symbols.arities) query (row_of p modes []) s → look_of (symbols_in c ns ws) query (row_of p ms out) s ≡ l
  look_of_stands query p ms out modes s l e f = sym (f ∙ ap (λ (m : List ℕ). look_of (symbols_in c symbols.names symbols.arities) query (row_of p m []) s) e ∙ look_of_kept query p ms out s)

-- one more byte of a list behind another list
pub byte_behind : (room : ℕ) (ns key names : List ℕ) (at i : ℕ) → i < length key → at ≡ length ns → names ≡ in_room room (ns ++ take i key)
    → set names (at + i) (get_or key i 0) ≡ in_room room (ns ++ take (i + 1) key)
byte_behind room ns key names at i h e f =
    let n : at + i ≡ length (ns ++ take i key) = omega (arith, length-append ns (take i key), length-take-le i key (omega arith)) in
    rw (n, f, add-one, take-suc key i 0 h) (set_behind room (ns ++ take i key) (get_or key i 0) ∙ ap (in_room room) (append_assoc ns (take i key) (get_or key i 0 ∷ [])))

pub all_behind : (room : ℕ) (ns key names : List ℕ) (i : ℕ) → length key ≤ i → names ≡ in_room room (ns ++ take i key) → names ≡ in_room room (ns ++ key)
all_behind room ns key names i h f = f ∙ ap (λ (l : List ℕ). in_room room (ns ++ l)) (take_all i key h)
