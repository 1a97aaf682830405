-- Lines put together again: the parts of bytes, joined by what they were cut at, are the bytes.
use Prim.Native.Nat.{ℕ}
use mathlib.Core.Path.{◌≡◌, refl, sym, ap, ◌∙◌}
use mathlib.Core.Bool.{Bool, true, false, cond}
use mathlib.Core.List.{List, [], ◌∷◌, ◌++◌}
use lib.Dec.{eqb}
use borrow.Author.Tests.{eqb-true}
use Rattle.text.specs.Line.{parts, onto, tab, line_feed}
use Rattle.written_lines.specs.Tokens.{behind_tabs, line}

-- the parts behind the first, each behind a separator
abbrev pub behind_each : ℕ → List (List ℕ) → List ℕ
behind_each b [] = []
behind_each b (s ∷ ss) = b ∷ s ++ behind_each b ss

abbrev joined : ℕ → List (List ℕ) → List ℕ
joined b [] = []
joined b (s ∷ ss) = s ++ behind_each b ss

joined_onto : (b x : ℕ) (ss : List (List ℕ)) → joined b (onto x ss) ≡ x ∷ joined b ss
joined_onto b x [] = refl
joined_onto b x (s ∷ ss) = refl

-- there is a first part always
some_part : (b : ℕ) (s : List ℕ) → behind_each b (parts b s) ≡ b ∷ joined b (parts b s)
some_part b [] = refl
some_part b (x ∷ xs) = by (eqb x b) (parts b xs)
  where
    by : (t : Bool) (ss : List (List ℕ)) → behind_each b (cond t ([] ∷ ss) (onto x ss)) ≡ b ∷ joined b (cond t ([] ∷ ss) (onto x ss))
    by true ss = refl
    by false [] = refl
    by false (s ∷ ss) = refl

parts_joined : (b : ℕ) (s : List ℕ) → joined b (parts b s) ≡ s
parts_joined b [] = refl
parts_joined b (x ∷ xs) = by (eqb x b) refl (parts_joined b xs)
  where
    by : (t : Bool) → eqb x b ≡ t → joined b (parts b xs) ≡ xs → joined b (cond t ([] ∷ parts b xs) (onto x (parts b xs))) ≡ x ∷ xs
    by true e ih = some_part b xs ∙ rw (ih, eqb-true x b e)
    by false e ih = joined_onto b x (parts b xs) ∙ ap (λ (l : List ℕ). x ∷ l) ih

-- bytes are their first part, and the others behind it
pub parts_together : (b : ℕ) (s first : List ℕ) (others : List (List ℕ)) → parts b s ≡ first ∷ others → s ≡ first ++ behind_each b others
parts_together b s first others e = sym (parts_joined b s) ∙ ap (joined b) e

behind_tabs_law : (ss : List (List ℕ)) → behind_each tab ss ≡ behind_tabs ss
behind_tabs_law [] = refl
behind_tabs_law (s ∷ ss) = ap (λ (l : List ℕ). tab ∷ s ++ l) (behind_tabs_law ss)

-- (line) a line's bytes with its LF are the line that is written of its fields
pub line_together : (l keyword : List ℕ) (ss : List (List ℕ)) → parts tab l ≡ keyword ∷ ss → l ++ line_feed ∷ [] ≡ line keyword ss
line_together l keyword ss e = ap (λ (x : List ℕ). x ++ line_feed ∷ []) (parts_together tab l keyword ss e ∙ ap (λ (x : List ℕ). keyword ++ x) (behind_tabs_law ss))
