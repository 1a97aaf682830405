-- Texts cut at LF, lines cut at tabs: one way of cutting for both.
use Rattle.std.specs.Prelude.{ℕ, suc, cond, List, [], ◌∷◌, length, drop, eqb, ltb}

-- "Each line ends in LF; fields are parted by one tab."
abbrev pub line_feed : ℕ
line_feed = 10

abbrev pub tab : ℕ
tab = 9

-- all bytes before the first b, or all
abbrev pub up_to : ℕ → List ℕ → List ℕ
up_to b [] = []
up_to b (x ∷ xs) = cond (eqb x b) [] (x ∷ up_to b xs)

-- a byte in front of the first part
abbrev pub onto : ℕ → List (List ℕ) → List (List ℕ)
onto x [] = (x ∷ []) ∷ []
onto x (p ∷ ps) = (x ∷ p) ∷ ps

-- the bytes cut at each b: one part more than there are b
abbrev pub parts : ℕ → List ℕ → List (List ℕ)
parts b [] = [] ∷ []
parts b (x ∷ xs) = cond (eqb x b) ([] ∷ parts b xs) (onto x (parts b xs))

-- the parts behind the separator at place i, and none where i is the end
abbrev pub behind : ℕ → List ℕ → ℕ → List (List ℕ)
behind b s i = cond (ltb i (length s)) (parts b (drop (suc i) s)) []
