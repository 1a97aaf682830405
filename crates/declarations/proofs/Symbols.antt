-- A symbol put behind the others: the symbols that stand in the room are those with it.
use Prim.Native.Nat.{ℕ, zero, suc, ◌+◌, ◌*◌, ◌≤◌, ◌<◌}
use mathlib.Core.Path.{◌≡◌, refl, sym, ap, ◌∙◌}
use mathlib.Core.Bool.{cond, ◌&&◌}
use mathlib.Core.List.{List, [], ◌∷◌, ◌++◌}
use native.Mathlib.Omega.{arith}
use native.Mathlib.Decide.{dec_lt}
use lib.ListN.{length, get_or, take, drop, length-append, length-drop, get_or-append}
use lib.Seq.{get_or-set_same, get_or-set_other, get_or-append_seam, drop-append-le, take-append-le, drop_at, take_all}
use lib.Dec.{eqb}
use borrow.Rule.Slice.PartMut.{put_mid}
use Rattle.text.specs.Room.{in_room}
use Rattle.text.specs.Name.{name_bytes, max_names, entry, padded, hash_of}
use Rattle.text.specs.Token.{is_name, number_of}
use Rattle.text.proofs.Rooms.{length_in_room}
use Rattle.cells.specs.declared.state.Counts.{Counts}
use Rattle.cells.specs.declared.state.SymbolRoom.{SymbolRoom}
use Rattle.program.specs.Reply.{bad_name}
use Rattle.cells.specs.TextSoFar.{wrong}
use Rattle.declarations.specs.Declarations.{arity_of, symbol_of}
use Rattle.cells.specs.Room.{SymbolsHeld, Few}
use Rattle.declarations.specs.Added.{Added}
use Rattle.cells.proofs.HeldSymbols.{entry_kept, seek_alike, entries}

-- a list written behind the list that the room holds
pub written_behind : (room : ℕ) (ns key : List ℕ) → length ns + length key ≤ room → put_mid (length ns) (length key) (in_room room ns) key ≡ in_room room (ns ++ key)
written_behind room [] key h = front room key (omega arith)
  where
    front : (room : ℕ) (key : List ℕ) → length key ≤ room → key ++ drop (length key) (in_room room []) ≡ in_room room key
    front room [] h = refl
    front zero (k ∷ ks) h = absurd (omega arith)
    front (suc room) (k ∷ ks) h = ap (λ (l : List ℕ). k ∷ l) (front room ks (omega arith))
written_behind zero (n ∷ ns) key h = absurd (omega arith)
written_behind (suc room) (n ∷ ns) key h = ap (λ (l : List ℕ). n ∷ l) (written_behind room ns key (omega arith))

-- a name that was there stays where it was
pub entry_front : (ns key : List ℕ) (k : ℕ) → k * name_bytes + name_bytes ≤ length ns → entry (ns ++ key) k ≡ entry ns k
entry_front ns key k h =
    ap (take name_bytes) (drop-append-le (k * name_bytes) ns key (omega arith))
    ∙ take-append-le name_bytes (drop (k * name_bytes) ns) key (omega (arith, length-drop (k * name_bytes) ns))

-- the name put last is the last entry
pub entry_last : (ns key : List ℕ) (n : ℕ) → length ns ≡ n * name_bytes → length key ≡ name_bytes → entry (ns ++ key) n ≡ key
entry_last ns key n e f =
    ap (take name_bytes) (drop_at ns key (n * name_bytes) e) ∙ take_all name_bytes key (omega arith)

module _ (ns ws : List ℕ) (c c' : Counts) (symbols : SymbolRoom) (words : List ℕ) (symbols' : SymbolRoom) (words' : List ℕ) (name : List ℕ) (arity n at : ℕ)
    (room : Few c) (kept : SymbolsHeld ns ws c symbols)
    (add : Added name arity n at symbols words symbols' words')
    (number : n ≡ c.predicates + c.functions) (more : c'.predicates + c'.functions ≡ n + 1) (few : n < max_names) (exact : length ws ≡ n) where
  key_length : length (padded name) ≡ name_bytes
  key_length = length_in_room name_bytes name

  names_are : symbols'.names ≡ in_room (max_names * name_bytes) (ns ++ padded name)
  names_are = add.named (max_names * name_bytes) ns kept.named (omega (arith, kept.sized))

  names_length : length (ns ++ padded name) ≡ (n + 1) * name_bytes
  names_length = omega (arith, length-append ns (padded name), key_length, kept.sized)

  entry_is : (k : ℕ) → k < n + 1 → entry symbols'.names k ≡ entry (ns ++ padded name) k
  entry_is k h =
      ap (λ (l : List ℕ). entry l k) names_are
      ∙ entry_kept (max_names * name_bytes) (ns ++ padded name) k (omega (arith, names_length)) (omega (arith, names_length))

  hashed_old : (k : ℕ) → k < n → get_or symbols'.hashes k 0 ≡ hash_of (entry symbols'.names k)
  hashed_old k h =
      ap (λ (l : List ℕ). get_or l k 0) add.hashed
      ∙ get_or-set_other symbols.hashes n k (hash_of (padded name)) 0 (omega arith)
      ∙ kept.hashed k (omega arith) (omega arith)
      ∙ ap hash_of (entries ns ws c symbols room kept k (omega arith)
      ∙ sym (entry_is k (omega arith) ∙ entry_front ns (padded name) k (omega (arith, kept.sized))))

  hashed_new : get_or symbols'.hashes n 0 ≡ hash_of (entry symbols'.names n)
  hashed_new =
      ap (λ (l : List ℕ). get_or l n 0) add.hashed
      ∙ get_or-set_same symbols.hashes n (hash_of (padded name)) 0 add.within.0
      ∙ ap hash_of (sym (entry_is n (omega arith) ∙ entry_last ns (padded name) n (omega (arith, kept.sized)) key_length))

  arity_old : (k : ℕ) → k < n → get_or symbols'.arities k 0 ≡ get_or (ws ++ arity ∷ []) k 0
  arity_old k h =
      ap (λ (l : List ℕ). get_or l k 0) add.sized
      ∙ get_or-set_other symbols.arities n k arity 0 (omega arith)
      ∙ kept.arity k (omega arith)
      ∙ sym (get_or-append ws (arity ∷ []) 0 k (omega arith))

  arity_new : get_or symbols'.arities n 0 ≡ get_or (ws ++ arity ∷ []) n 0
  arity_new =
      ap (λ (l : List ℕ). get_or l n 0) add.sized
      ∙ get_or-set_same symbols.arities n arity 0 add.within.1
      ∙ sym (ap (λ (k : ℕ). get_or (ws ++ arity ∷ []) k 0) (sym exact) ∙ get_or-append_seam ws arity [] 0)

  pub kept_more : SymbolsHeld (ns ++ padded name) (ws ++ arity ∷ []) c' symbols'
  kept_more =
      record {
        named = names_are;
        sized = omega (arith, names_length);
        arity = λ k h. by k h (dec_lt k n);
        hashed = λ k l h. hash k h (dec_lt k n);
      }
    where
      last : (k : ℕ) → k < c'.predicates + c'.functions → ¬ (k < n) → n ≡ k
      last k h no' = omega arith

      by : (k : ℕ) → k < c'.predicates + c'.functions → Dec (k < n) → get_or symbols'.arities k 0 ≡ get_or (ws ++ arity ∷ []) k 0
      by k h (yes l) = arity_old k l
      by k h (no l) = rw (sym (last k h l)) arity_new

      hash : (k : ℕ) → k < c'.predicates + c'.functions → Dec (k < n) → get_or symbols'.hashes k 0 ≡ hash_of (entry symbols'.names k)
      hash k h (yes l) = hashed_old k l
      hash k h (no l) = rw (sym (last k h l)) hashed_new

-- a declaration seen through the room is a declaration seen through the text so far
pub symbol_of_kept : (ns ws : List ℕ) (c : Counts) (symbols : SymbolRoom) → Few c → SymbolsHeld ns ws c symbols
    → (first count at : ℕ) (name arity : List ℕ) → first + count ≡ c.predicates + c.functions
    → symbol_of symbols.names first count at name arity ≡ symbol_of ns first count at name arity
symbol_of_kept ns ws c symbols room kept first count at name arity e =
    ap (λ (k : ℕ). cond (is_name name && eqb k (first + count)) (arity_of (at + 1 + length name + 1) (number_of arity)) (wrong bad_name (at + 1)))
    (seek_alike symbols.names ns (padded name) first count (λ k h l. entries ns ws c symbols room kept k (omega arith)))
