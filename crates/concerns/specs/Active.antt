-- The clauses that a row concerns: what a round looks at, by an index of the clauses by the predicates of their heads and body atoms.
use Rattle.std.specs.Prelude.{ℕ, suc, ◌≡◌, List, length, get_or}
use Rattle.terms.specs.Term.{Term}
use Rattle.terms.specs.Mask.{Has}
use Rattle.program.specs.Program.{Nth, Clause, Program}
use Rattle.program.specs.Shapes.{shapes}
use Rattle.directory.specs.Directory.{predicate_of}
use Rattle.table.specs.Rules.{Row, call, cont, solution}
use Rattle.steps.specs.Situation.{Setting, Situation}

-- a call row concerns the clauses for its predicate, a cont row its own clause, a solution row the clauses with a body atom of its predicate
pub data Concerns (p : Program) (k : ℕ) : Row ℕ → Type 0 where
  by_call : {s M : ℕ} {c : Clause} {S : Term} → Nth p.clauses k c → Nth (shapes p) s S → predicate_of c.head ≡ predicate_of S → Concerns p k (call s M)
  by_cont : {i M : ℕ} → Concerns p k (cont (suc k) (suc i) M)
  by_solution : {i s M : ℕ} {c : Clause} {A S : Term} → Nth p.clauses k c → Nth c.body i A → Nth (shapes p) s S → predicate_of A ≡ predicate_of S
      → Concerns p k (solution s M)

-- one set of clauses for each predicate; clause k is entered for predicate q, and nothing is lost
pub record Entered (set set' : List ℕ) (q k : ℕ) : Type 0 where
  pub entered : Has (get_or set' q 0) k
  pub kept : (x v : ℕ) → Has (get_or set x 0) v → Has (get_or set' x 0) v

abbrev pub HeadsEntered : Program → List ℕ → Type 0
HeadsEntered p set = (k : ℕ) (c : Clause) → Nth p.clauses k c → Has (get_or set (predicate_of c.head) 0) k

abbrev pub BodiesEntered : Program → List ℕ → Type 0
BodiesEntered p set = (k i : ℕ) (c : Clause) (A : Term) → Nth p.clauses k c → Nth c.body i A → Has (get_or set (predicate_of A) 0) k

pub record Indexed (p : Program) (headed bodied : List ℕ) : Type 0 where
  pub heads_entered : HeadsEntered p headed
  pub bodies_entered : BodiesEntered p bodied

-- what is asked before the index is made, of a shape, and of a round
pub record IndexAsked (words dir : List ℕ) : Type 0 where
  pub p : Program
  pub setting : Setting words dir p

pub record ShapeAsked (words dir : List ℕ) (s : ℕ) : Type 0 where
  pub p : Program
  pub setting : Setting words dir p
  pub S : Term
  pub nth_shape : Nth (shapes p) s S

pub record RoundAsked (words dir table heads headed bodied : List ℕ) (since rows : ℕ) : Type 0 where
  pub situation : Situation words dir table heads since rows
  pub heads_size : length headed ≡ 64
  pub bodies_size : length bodied ≡ 64
  pub indexed : Indexed situation.p headed bodied
