-- What accepted words say: the program that the scan finds in them.
use Rattle.std.specs.Prelude.{ℕ, ◌≡◌, List, []}
use Rattle.terms.specs.Term.{var}
use Rattle.program.specs.Program.{Program}
use Rattle.program.specs.Faults.{Found, fault, sound, faults}

-- the program found; where there is a fault, any
abbrev pub program_in : Found Program → Program
program_in (fault number place) = record { predicates = []; functions = []; clauses = []; goal = var 0; grounded = 0 }
program_in (sound p) = p

abbrev pub said : List ℕ → Program
said words = program_in (faults words)

-- the scan accepts the words
abbrev pub Accepted : List ℕ → Type 0
Accepted words = (p : Program) × (faults words ≡ sound p)
