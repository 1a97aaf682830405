-- What the code's numbers and the lists in its room say together: the declared symbols, a line, and when a step of the code is right.
use Rattle.std.specs.Prelude.{ℕ, ◌+◌, ◌-◌, ◌*◌, ◌≤◌, ◌<◌, ◌≡◌, cond, List, ◌++◌, length, get_or, eqb, ltb, Result, Ok, Err, IsErrAnd}
use Rattle.terms.specs.Cells.{variables}
use Rattle.program.specs.Limits.{max_declared, max_words, max_body}
use Rattle.program.specs.Reply.{number_of}
use Rattle.program.specs.declared.reply.Refusal.{Refusal}
use Rattle.program.specs.declared.reply.Fault.{Fault}
use Rattle.text.specs.Name.{name_bytes, max_names, Hashed}
use Rattle.text.specs.Room.{in_room}
use Rattle.cells.specs.Symbols.{Symbols}
use Rattle.cells.specs.TextSoFar.{Read, wrong, right, reading_of}
use Rattle.cells.specs.Cells.{Row, Look, fault, symbol, met}
use Rattle.cells.specs.declared.state.Counts.{Counts}
use Rattle.cells.specs.declared.state.Progress.{Progress}
use Rattle.cells.specs.declared.state.SymbolRoom.{SymbolRoom}
use Rattle.cells.specs.declared.look.Seen.{Seen}
use Rattle.cells.specs.declared.look.Seen.TheVariants.{Symbol, Variable}

abbrev pub symbols_in : Counts → List ℕ → List ℕ → Symbols
symbols_in c names arities = record { predicates = c.predicates; functions = c.functions; names = names; arities = arities }

abbrev pub row_of : Progress → List ℕ → List ℕ → Row
row_of p modes out =
    record { wanted = p.wanted; cells = p.cells; atoms = p.atoms; variables = p.variables; modes = modes; out = out }

-- the look that the code's answer for a token is
abbrev pub look_in : Result Seen Refusal → Look
look_in (Err refusal) = fault (number_of refusal)
look_in (Ok (Symbol word arity)) = symbol word arity
look_in (Ok (Variable number grounded)) = met number grounded

-- few symbols of each kind
pub record Few (c : Counts) : Type 0 where
  pub few_predicates : c.predicates ≤ max_declared
  pub few_functions : c.functions ≤ max_declared

-- the names ns and the arities ws stand in the room
pub record SymbolsHeld (ns ws : List ℕ) (c : Counts) (symbols : SymbolRoom) : Type 0 where
  pub named : symbols.names ≡ in_room (max_names * name_bytes) ns
  pub sized : length ns ≡ (c.predicates + c.functions) * name_bytes
  pub arity : (n : ℕ) → n < c.predicates + c.functions → get_or symbols.arities n 0 ≡ get_or ws n 0
  pub hashed : Hashed symbols.names symbols.hashes 0 (c.predicates + c.functions)

abbrev pub after_symbol : Progress → ℕ → Progress
after_symbol p arity =
    record {
      wanted = p.wanted - 1 + arity;
      cells = cond (eqb p.wanted 0) 1 (p.cells + 1);
      atoms = cond (eqb p.wanted 0) (p.atoms + 1) p.atoms;
      variables = p.variables;
      words = p.words + 1;
    }

abbrev pub after_variable : Progress → ℕ → Progress
after_variable p v =
    record {
      wanted = p.wanted - 1;
      cells = p.cells + 1;
      atoms = p.atoms;
      variables = cond (ltb v p.variables) p.variables (p.variables + 1);
      words = p.words + 1;
    }

-- numbers that grow with the words
pub record Small (p : Progress) : Type 0 where
  pub wanted : p.wanted ≤ 65536 * p.words
  pub cells : p.cells ≤ p.words
  pub atoms : p.atoms ≤ p.words
  pub variables : p.variables ≤ p.words

-- one word more, in the answer for a token
abbrev pub Grows : Progress → Result Progress Refusal → Type 0
Grows p (Err _) = Unit {0}
Grows p (Ok q) = Small q × (q.words ≡ p.words + 1)

-- no more words than so many, and an atom at least, in the answer for a line
abbrev pub Grown : ℕ → Result Progress Fault → Type 0
Grown most (Err _) = Unit {0}
Grown most (Ok q) = (q.words ≤ most) × (0 < q.atoms) × (q.atoms ≤ q.words) × (q.variables ≤ q.words)

-- the line that stands in the room behind the words of `front`
pub record Stands (p : Progress) (ms out front modes words : List ℕ) : Type 0 where
  pub mode_room : modes ≡ in_room variables ms
  pub met : p.variables ≡ length ms
  pub few : p.variables ≤ variables
  pub atom_count : p.atoms ≤ max_body + 1
  pub word_room : words ≡ in_room max_words (front ++ out)
  pub place : p.words ≡ length (front ++ out)

-- a cell was taken as it should be
abbrev pub TakenAs : List ℕ → List ℕ → List ℕ → Result Progress Refusal → Read Row → Type 0
TakenAs front modes words r (wrong number place) = IsErrAnd r (λ refusal. number_of refusal ≡ number)
TakenAs front modes words r (right row) =
    (p : Progress) × (r ≡ Ok p) × (row ≡ row_of p row.modes row.out) × Stands p row.modes row.out front modes words

-- the cells of a line were read as they should be
abbrev pub CellsAs : List ℕ → List ℕ → List ℕ → Result Progress Fault → Read Row → Type 0
CellsAs front modes words r (wrong number place) = reading_of r ≡ wrong number place
CellsAs front modes words r (right row) =
    (p : Progress) × (r ≡ Ok p) × (row ≡ row_of p row.modes row.out) × Stands p row.modes row.out front modes words
