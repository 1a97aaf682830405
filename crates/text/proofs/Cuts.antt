-- Cutting bytes at a separator: what one step of the search knows, and how parts go on behind the first.
use Prim.Native.Nat.{ℕ, suc, ◌+◌, ◌-◌, ◌≤◌, ◌<◌}
use mathlib.Core.Path.{◌≡◌, refl, sym, ap, ◌∙◌}
use mathlib.Core.Bool.{Bool, true, false, not, cond}
use Rattle.std.specs.Prelude.{Some, None}
use Rattle.std.specs.List.{position_or_len, position}
use Rattle.std.specs.Option.{unwrap_or}
use mathlib.Core.List.{List, [], ◌∷◌, ◌++◌, append-nil, append_assoc}
use native.Mathlib.Omega.{arith}
use lib.ListN.{length, get_or, take, drop, length-drop, drop_of_length-le}
use lib.Seq.{drop-cons, drop-drop, take_all, take-suc}
use lib.Dec.{eqb, ltb}
use borrow.Author.Tests.{eq-eqb, ne_eqb, lt-ltb, le-ltb}
use native.Mathlib.Decide.{dec_lt}
use Rattle.text.specs.Line.{up_to, parts, onto, behind}

module _ (b : ℕ) (s : List ℕ) (i : ℕ) (h : i < length s) where
  -- the search stands at the separator
  pub up_to_here : get_or s i 0 ≡ b → up_to b (drop i s) ≡ []
  up_to_here e = rw (drop-cons s i 0 h, eq-eqb (get_or s i 0) b e)

  -- the search goes past another byte
  pub up_to_past : (get_or s i 0 ≡ b → ⊥) → length (up_to b (drop i s)) ≡ suc (length (up_to b (drop (suc i) s)))
  up_to_past n = rw (drop-cons s i 0 h, ne_eqb (get_or s i 0) b n)

-- the bytes before place i are no separators: so they stand before it, with those from place i on that do
abbrev pub Passed : ℕ → List ℕ → ℕ → Type 0
Passed b s i = up_to b s ≡ take i s ++ up_to b (drop i s)

module _ (b : ℕ) (s : List ℕ) (i : ℕ) (passed : Passed b s i) where
  pub passed_here : i < length s → get_or s i 0 ≡ b → up_to b s ≡ take i s
  passed_here h e = passed ∙ rw (up_to_here b s i h e) (append-nil (take i s))

  pub passed_more : i < length s → (get_or s i 0 ≡ b → ⊥) → Passed b s (suc i)
  passed_more h n = passed ∙ rw (take-suc s i 0 h, drop-cons s i 0 h, ne_eqb (get_or s i 0) b n) (sym (append_assoc (take i s) (get_or s i 0 ∷ []) (up_to b (drop (suc i) s))))

  pub passed_all : length s ≤ i → up_to b s ≡ take i s
  passed_all h = passed ∙ rw (drop_of_length-le s h) (append-nil (take i s))

-- what stands before the separator is a front of the bytes
pub up_to_take : (b : ℕ) (s : List ℕ) → take (length (up_to b s)) s ≡ up_to b s
up_to_take b [] = refl
up_to_take b (x ∷ xs) = go (eqb x b) (up_to_take b xs)
  where
    go : (t : Bool) → take (length (up_to b xs)) xs ≡ up_to b xs
        → take (length (cond t [] (x ∷ up_to b xs))) (x ∷ xs) ≡ cond t [] (x ∷ up_to b xs)
    go true ih = refl
    go false ih = ap (λ (l : List ℕ). x ∷ l) ih

pub up_to_short : (b : ℕ) (s : List ℕ) → length (up_to b s) ≤ length s
up_to_short b [] = omega arith
up_to_short b (x ∷ xs) = go (eqb x b) (up_to_short b xs)
  where
    go : (t : Bool) → length (up_to b xs) ≤ length xs → length (cond t [] (x ∷ up_to b xs)) ≤ length (x ∷ xs)
    go true ih = omega arith
    go false ih = omega arith

-- what stands before the separator is as long as the place of the first separator says
up_to_position : (b : ℕ) (s : List ℕ) → length (up_to b s) ≡ position_or_len (λ x. eqb x b) s
up_to_position b [] = refl
up_to_position b (x ∷ xs) = go (eqb x b) (up_to_position b xs)
  where
    go : (t : Bool) → length (up_to b xs) ≡ position_or_len (λ y. eqb y b) xs
        → length (cond t [] (x ∷ up_to b xs)) ≡ cond (not t) (1 + position_or_len (λ y. eqb y b) xs) 0
    go true ih = refl
    go false ih = omega arith

pub up_to_found : (b : ℕ) (s : List ℕ) → unwrap_or (position (λ x. eqb x b) s) (length s) ≡ length (up_to b s)
up_to_found b s = rw (← up_to_position b s) (go (dec_lt (length (up_to b s)) (length s)))
  where
    go : Dec (length (up_to b s) < length s)
        → unwrap_or (cond (ltb (length (up_to b s)) (length s)) (Some (length (up_to b s))) None) (length s) ≡ length (up_to b s)
    go (yes h) = rw (lt-ltb (length (up_to b s)) (length s) h)
    go (no h) = let k = up_to_short b s in let l : length s ≤ length (up_to b s) = omega arith in rw (le-ltb (length (up_to b s)) (length s) l) (omega arith)

-- at the end nothing is left to pass
pub up_to_ends : (b : ℕ) (s : List ℕ) (i : ℕ) → length s ≤ i → length (up_to b (drop i s)) ≡ 0
up_to_ends b s i h = rw (drop_of_length-le s h)

-- no separator: one part
pub parts_whole : (b : ℕ) (s : List ℕ) → length (up_to b s) ≡ length s → parts b s ≡ s ∷ []
parts_whole b [] = λ e. refl
parts_whole b (x ∷ xs) = go (eqb x b) (parts_whole b xs)
  where
    go : (t : Bool) → (length (up_to b xs) ≡ length xs → parts b xs ≡ xs ∷ []) → length (cond t [] (x ∷ up_to b xs)) ≡ length (x ∷ xs)
        → cond t ([] ∷ parts b xs) (onto x (parts b xs)) ≡ (x ∷ xs) ∷ []
    go true ih e = absurd (omega arith)
    go false ih e = ap (onto x) (ih (omega arith))

-- a separator: the first part is what stands before it, and the others are those of what stands behind it
pub parts_first : (b : ℕ) (s : List ℕ) → length (up_to b s) < length s → parts b s ≡ up_to b s ∷ parts b (drop (suc (length (up_to b s))) s)
parts_first b [] = λ h. absurd (omega arith)
parts_first b (x ∷ xs) = go (eqb x b) (parts_first b xs)
  where
    go : (t : Bool) → (length (up_to b xs) < length xs → parts b xs ≡ up_to b xs ∷ parts b (drop (suc (length (up_to b xs))) xs))
        → length (cond t [] (x ∷ up_to b xs)) < length (x ∷ xs)
        → cond t ([] ∷ parts b xs) (onto x (parts b xs))
        ≡ cond t [] (x ∷ up_to b xs) ∷ parts b (drop (suc (length (cond t [] (x ∷ up_to b xs)))) (x ∷ xs))
    go true ih h = refl
    go false ih h = ap (onto x) (ih (omega arith))

-- the first part from place i on ends at e: what stands there, and the parts behind e
module _ (b : ℕ) (s : List ℕ) (i e : ℕ) (h : i ≤ length s) (ends : e ≡ i + length (up_to b (drop i s))) where
  pub part_within : e ≤ length s
  part_within = let k = up_to_short b (drop i s) in omega (arith, length-drop i s)

  pub parts_from : parts b (drop i s) ≡ take (e - i) (drop i s) ∷ behind b s e
  parts_from =
      let n : e - i ≡ length (up_to b (drop i s)) = omega arith in
      go (dec_lt e (length s)) n
    where
      front : e - i ≡ length (up_to b (drop i s)) → take (e - i) (drop i s) ≡ up_to b (drop i s)
      front n = ap (λ (k : ℕ). take k (drop i s)) n ∙ up_to_take b (drop i s)

      go : Dec (e < length s) → e - i ≡ length (up_to b (drop i s)) → parts b (drop i s) ≡ take (e - i) (drop i s) ∷ behind b s e
      go (yes k) n =
          let short : length (up_to b (drop i s)) < length (drop i s) = simp length-drop (omega arith) in
          let at : i + suc (length (up_to b (drop i s))) ≡ suc e = omega arith in
          rw (front n, lt-ltb e (length s) k) (parts_first b (drop i s) short ∙ ap (λ (l : List ℕ). up_to b (drop i s) ∷ parts b l) (drop-drop (suc (length (up_to b (drop i s)))) i s ∙ ap (λ (m : ℕ). drop m s) at))
      go (no k) n =
          let whole : length (up_to b (drop i s)) ≡ length (drop i s) = let u = part_within in simp length-drop (omega arith) in
          let le : length s ≤ e = omega arith in
          rw (le-ltb e (length s) le) (parts_whole b (drop i s) whole ∙ ap (λ (l : List ℕ). l ∷ []) (sym (take_all (e - i) (drop i s) (omega arith))))
