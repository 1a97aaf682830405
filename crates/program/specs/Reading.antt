-- Reading words from left to right: what a part of them comes to, and one part after another.
use Rattle.std.specs.Prelude.{ℕ, zero, suc, List, [], ◌∷◌, leb}
use Rattle.terms.specs.Cells.{pick}
use Rattle.program.specs.Reply.{too_soon}

-- what a part of the words is decoded to
pub data Decoded (A : Type 0) : Type 0 where
  -- a fault's number, and the words from its place on
  wrong : ℕ → List ℕ → Decoded A
  -- what was read, and the words after it
  right : A → List ℕ → Decoded A

-- one part, and then what follows it; the first fault decides
abbrev pub next : {A B : Type 0} → Decoded A → (A → List ℕ → Decoded B) → Decoded B
next (wrong number rest) f = wrong number rest
next (right a rest) f = f a rest

-- a word from low to high; else it is the fault of this number
unfoldable pub bounded : ℕ → ℕ → ℕ → List ℕ → Decoded ℕ
bounded number low high [] = wrong too_soon []
bounded number low high (w ∷ ws) =
    pick (leb low w) (pick (leb w high) (right w ws) (wrong number (w ∷ ws))) (wrong number (w ∷ ws))

-- so many parts of one kind, one after another
unfoldable pub several : {A : Type 0} → (List ℕ → Decoded A) → ℕ → List ℕ → Decoded (List A)
several part zero ws = right [] ws
several part (suc n) ws =
    next (part ws) (λ a rest. next (several part n rest) (λ others rest'. right (a ∷ others) rest'))
