-- Runs of cells that are atoms: what must be known of two runs before they are unified.
use Rattle.std.specs.Prelude.{ℕ, ◌<◌, ◌≡◌, List, length, get_or}
use Rattle.terms.specs.Term.{Term, Terms, count}
use Rattle.terms.specs.Cells.{enc, encs, Keepss, Atom, Run}
use Rattle.terms.specs.Store.{no_place, cells_at}

-- the run is n terms, and nothing behind them
pub record TermsRun (functions cells : List ℕ) (n : ℕ) : Type 0 where
  pub terms : Terms
  pub is : cells ≡ encs terms
  pub keeps : Keepss functions terms
  pub many : count terms ≡ n

-- "Atoms are in prefix order: a predicate number below P, then its argument terms."
pub record AtomRun (predicates functions cells : List ℕ) : Type 0 where
  pub term : Term
  pub is : cells ≡ enc term
  pub atom : Atom predicates functions term

-- every binding of the store is a whole term of one of the two atoms
pub record WholeBindings (functions a b places : List ℕ) : Type 0 where
  pub all_places : length places ≡ 32
  pub whole : (x : ℕ) → get_or places x no_place < no_place → Run functions (cells_at a b (get_or places x no_place)) 1
