-- What is left of the lists while they are made. For the code alone: readers go by `Directory`.
use Rattle.std.specs.Prelude.{ℕ, ◌+◌, ◌≤◌, ◌<◌, ◌≡◌, List, ◌∷◌, length, get_or, take, drop}
use Rattle.terms.specs.Term.{Term}
use Rattle.terms.specs.Cells.{Atom}
use Rattle.terms.specs.Mask.{Marks}
use Rattle.program.specs.Limits.{max_declared}
use Rattle.program.specs.Program.{Nth, Clause, Program, bodies}
use Rattle.program.specs.Shapes.{In, Listed}
use Rattle.directory.specs.Layout.{body_list}
use Rattle.directory.specs.Directory.{StandsAt}

-- an atom stands at a place
pub record VariablesAt (words : List ℕ) (start cells : ℕ) : Type 0 where
  pub predicates : List ℕ
  pub functions : List ℕ
  pub few : length predicates ≤ max_declared
  pub atom : Term
  pub sound : Atom predicates functions atom
  pub stands : StandsAt words atom start cells

-- the number of the first body atom of clause k
abbrev pub first_of : Program → ℕ → ℕ
first_of p k = length (bodies (take k p.clauses))

-- the entries from place i on have the variables of "body atoms i to m or the head"; the entries of the clauses before are kept
pub record Later (p : Program) (k : ℕ) (c : Clause) (before dir : List ℕ) (i : ℕ) : Type 0 where
  pub size : length dir ≡ length before
  pub kept : (x : ℕ) → x < body_list + first_of p k → get_or dir x 0 ≡ get_or before x 0
  pub later : (y : ℕ) → i ≤ y → y < length c.body → Marks (λ v. In v (c.head ∷ drop y c.body)) (get_or dir (body_list + (first_of p k + y)) 0)

-- the entries before place i have the lists
pub record ListedFrom (p : Program) (k : ℕ) (c : Clause) (before dir : List ℕ) (i : ℕ) : Type 0 where
  pub rest : Later p k c before dir i
  pub listed : (y : ℕ) → y < i → Marks (Listed c y) (get_or dir (body_list + (first_of p k + y)) 0)

-- the lists of the first k clauses
pub record Lists (p : Program) (before dir : List ℕ) (k : ℕ) : Type 0 where
  pub size : length dir ≡ length before
  pub kept : (x : ℕ) → x < body_list → get_or dir x 0 ≡ get_or before x 0
  pub lists : {x : ℕ} {c : Clause} → Nth p.clauses x c → x < k → (y : ℕ) → y < length c.body
      → Marks (Listed c y) (get_or dir (body_list + (first_of p x + y)) 0)
