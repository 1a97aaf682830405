-- The modes, the first domain of marks: a mark is a mask, and a marked variable is ground.
use Rattle.std.specs.Prelude.{ℕ, ◌<◌, ◌≡◌, ◌⊎◌, List, get_or}
use Rattle.terms.specs.Term.{Term, Subst, Occ, Ground}
use Rattle.terms.specs.Mask.{Has, Marks}
use Rattle.marks.specs.Pass.{Pass}
use Rattle.marks.specs.Domain.{Domain}

-- "the cont row's marks together with those that the solution passes"
abbrev pub Together : ℕ → ℕ → ℕ → Type 0
Together M N R = Marks (λ v. Has M v ⊎ Has N v) R

-- "A cont mask has no bit outside its list."
abbrev pub KeptTo : (ℕ → Type 0) → ℕ → ℕ → Type 0
KeptTo P M R = Marks (λ v. P v × Has M v) R

-- "an atom with its variables renumbered by first appearance": the shape's variable f v is marked where the atom's v is
abbrev pub Renumbered : Term → (ℕ → ℕ) → ℕ → ℕ → Type 0
Renumbered A f M R = Marks (λ k. (v : ℕ) × Occ v A × (f v ≡ k) × Has M v) R

-- the same by a list: the shape's variable k is the atom's variable order[k]
abbrev pub Reordered : List ℕ → ℕ → ℕ → ℕ → Type 0
Reordered order count M R = Marks (λ k. (k < count) × Has M (get_or order k 0)) R

-- and back: the atom's variable order[k] is marked where the shape's variable k is
abbrev pub Restored : List ℕ → ℕ → ℕ → ℕ → Type 0
Restored order count M R = Marks (λ v. (k : ℕ) × (k < count) × (get_or order k 0 ≡ v) × Has M k) R

-- the list has the atom's variables, each at its number in the shape
pub record InOrder (A : Term) (f : ℕ → ℕ) (order : List ℕ) (count : ℕ) : Type 0 where
  pub placed : (v : ℕ) → Occ v A → (f v < count) × (get_or order (f v) 0 ≡ v)
  pub present : (k : ℕ) → k < count → Occ (get_or order k 0) A × (f (get_or order k 0) ≡ k)

-- "ground where marked"
abbrev pub GroundWhere : ℕ → Subst → Type 0
GroundWhere M σ = (v : ℕ) → Has M v → Ground (σ v)

abbrev pub modes : Domain
modes =
    record {
      Mark = ℕ;
      none = 0;
      Pass = Pass;
      Join = Together;
      Keep = KeptTo;
      Number = Renumbered;
      Holds = GroundWhere;
    }
