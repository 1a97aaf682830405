-- The lines that a closure writes, one behind another. For the code alone: readers go by `Listing`.
use Rattle.std.specs.Prelude.{ℕ, zero, suc, ◌<◌, List, [], ◌++◌}
use denote.Ref.{MutBor}
use denote.Param.Members.{Shared}
use Rattle.text.specs.Put.{Put}

-- so many texts, from number 0 on
abbrev pub joined : (ℕ → List ℕ) → ℕ → List ℕ
joined texts zero = []
joined texts (suc n) = joined texts n ++ texts n

-- f may be called with each number below count, and writes the text of that number at the start of what it is lent
pub record WritesEach {F : Type 0} (g : Shared F (ℕ × (MutBor (List ℕ) × Unit {0})) (ℕ × (MutBor (List ℕ) × Unit {0}))) (f : F) (texts : ℕ → List ℕ) (count : ℕ) : Type 0 where
  pub accepts : (i : ℕ) (tail : MutBor (List ℕ)) → i < count → g.pre f (i, (tail, tt))
  pub writes : (i : ℕ) (tail after : MutBor (List ℕ)) (r : ℕ) → i < count → g.post f (i, (tail, tt)) (r, (after, tt)) → Put (texts i) tail.now after.now 0 r
