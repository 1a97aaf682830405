-- A set of variables as a test. For the code alone: readers go by `Letters`.
use Rattle.std.specs.Prelude.{ℕ, Bool, eqb}
use Rattle.terms.specs.Mask.{mark_of, grounded}

-- "bit v is set where v is in it"
abbrev pub in_set : ℕ → ℕ → Bool
in_set set v = eqb (mark_of set v) grounded
