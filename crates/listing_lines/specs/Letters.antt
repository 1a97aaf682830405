-- The letters of a row: "then `g` or `a` for each variable of the shape (or list) in order, `-` for none."
use Rattle.std.specs.Prelude.{ℕ, zero, suc, Bool, false, cond, ◌&&◌, ◌||◌, List, [], ◌∷◌, ◌++◌, take, drop, eqb}
use Rattle.terms.specs.Term.{Term, Terms, var, app, nil, cons}
use Rattle.terms.specs.Cells.{variables}
use Rattle.terms.specs.Mask.{mark_of, grounded}
use Rattle.program.specs.Program.{Clause}

abbrev pub lower_g : ℕ
lower_g = 103

abbrev pub lower_a : ℕ
lower_a = 97

abbrev pub dash : ℕ
dash = 45

-- whether the variable occurs in the term
abbrev mutual
  pub occurs_in : Term → ℕ → Bool
  occurs_in (var x) v = eqb v x
  occurs_in (app f ts) v = occurs_among ts v

  pub occurs_among : Terms → ℕ → Bool
  occurs_among nil v = false
  occurs_among (cons t ts) v = occurs_in t v || occurs_among ts v

abbrev pub occurs_in_one : List Term → ℕ → Bool
occurs_in_one [] v = false
occurs_in_one (t ∷ ts) v = occurs_in t v || occurs_in_one ts v

-- "The list of place i in clause n has the variables occurring both in the head or body atoms 1 to i-1, and in body atoms i to m or the head."
-- Here i counts from 0.
abbrev pub is_listed : Clause → ℕ → ℕ → Bool
is_listed c i v = occurs_in_one (c.head ∷ take i c.body) v && occurs_in_one (c.head ∷ drop i c.body) v

-- "A mask has bit v set where variable v is ground."
abbrev pub letter : ℕ → ℕ → ℕ
letter mask v = cond (eqb (mark_of mask v) grounded) lower_g lower_a

-- a letter for each variable below n of which the test holds
abbrev pub letters_below : (ℕ → Bool) → ℕ → ℕ → List ℕ
letters_below has mask zero = []
letters_below has mask (suc n) = letters_below has mask n ++ cond (has n) (letter mask n ∷ []) []

abbrev pub or_none : List ℕ → List ℕ
or_none [] = dash ∷ []
or_none (b ∷ bs) = b ∷ bs

abbrev pub letters_of : (ℕ → Bool) → ℕ → List ℕ
letters_of has mask = or_none (letters_below has mask variables)
