-- Chains of rows of one class, newest first: a head for each class, and from each row a link to the row before it.
use Rattle.std.specs.Prelude.{ℕ, suc, ◌≤◌, ◌<◌, ◌≡◌, List, length, get_or}

-- the link is 1 + the last row below n of class c, or 0 where there is none
pub record Latest (class : ℕ → ℕ) (c n link : ℕ) : Type 0 where
  pub within : link ≤ n
  pub own : (r : ℕ) → suc r ≡ link → class r ≡ c
  pub last : (q : ℕ) → link ≤ q → q < n → class q ≡ c → ⊥

-- the heads have the last row of each class below n, and each row's link the last one before it of its class
pub record Chained (class links : ℕ → ℕ) (heads : List ℕ) (n : ℕ) : Type 0 where
  pub from_heads : (c : ℕ) → c < length heads → Latest class c n (get_or heads c 0)
  pub from_rows : (r : ℕ) → r < n → Latest class (class r) r (links r)

-- a walk along the chain of class c has come to the link: what it looks for is done for every row behind that
pub record Walked (class : ℕ → ℕ) (c n link : ℕ) (Done : ℕ → Type 0) : Type 0 where
  pub within : link ≤ n
  pub own : (r : ℕ) → suc r ≡ link → class r ≡ c
  pub done : (q : ℕ) → link ≤ q → q < n → class q ≡ c → Done q
