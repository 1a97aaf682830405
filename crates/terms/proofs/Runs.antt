-- A run of cells determines its terms: what `terms_of` reads from the cells of terms are those terms.
use Prim.Native.Nat.{ℕ, zero, suc, ◌+◌, ◌<◌}
use mathlib.Core.Path.{◌≡◌, refl, sym, ap, ◌∙◌}
use mathlib.Core.List.{List, [], ◌++◌, append_assoc}
use native.Mathlib.Omega.{arith}
use lib.ListN.{get_or}
use borrow.Author.Tests.{lt-ltb, le-ltb}
use Rattle.terms.specs.Term.{Term, Terms, var, app, nil, cons, count, join}
use Rattle.terms.specs.Cells.{enc, encs, Keeps, Keepss, take_terms, drop_terms, before, terms_of, first_variable, Run}

pub take_join : (ts us : Terms) (n : ℕ) → count ts ≡ n → take_terms n (join ts us) ≡ ts
take_join nil us zero e = refl
take_join nil us (suc n) e = absurd (omega arith)
take_join (cons t ts) us zero e = absurd (omega arith)
take_join (cons t ts) us (suc n) e = ap (cons t) (take_join ts us n (cc))

pub drop_join : (ts us : Terms) (n : ℕ) → count ts ≡ n → drop_terms n (join ts us) ≡ us
drop_join nil us zero e = refl
drop_join nil us (suc n) e = absurd (omega arith)
drop_join (cons t ts) us zero e = absurd (omega arith)
drop_join (cons t ts) us (suc n) e = drop_join ts us n (cc)

pub join_nil : (ts : Terms) → join ts nil ≡ ts
join_nil nil = refl
join_nil (cons t ts) = ap (cons t) (join_nil ts)

-- the first terms and those behind them, together
pub encs_split : (n : ℕ) (ts : Terms) → encs (take_terms n ts) ++ encs (drop_terms n ts) ≡ encs ts
encs_split zero ts = refl
encs_split (suc n) nil = refl
encs_split (suc n) (cons t ts) = append_assoc (enc t) (encs (take_terms n ts)) (encs (drop_terms n ts)) ∙ ap (λ (l : List ℕ). enc t ++ l) (encs_split n ts)

pub count_take : (n m : ℕ) (ts : Terms) → count ts ≡ n + m → count (take_terms n ts) ≡ n
count_take zero m ts e = refl
count_take (suc n) m nil e = absurd (omega arith)
count_take (suc n) m (cons t ts) e = ap suc (count_take n m ts (omega arith))

pub count_drop : (n m : ℕ) (ts : Terms) → count ts ≡ n + m → count (drop_terms n ts) ≡ m
count_drop zero m ts e = omega arith
count_drop (suc n) m nil e = absurd (omega arith)
count_drop (suc n) m (cons t ts) e = count_drop n m ts (omega arith)

pub keeps_take : (arities : List ℕ) (n : ℕ) (ts : Terms) → Keepss arities ts → Keepss arities (take_terms n ts)
keeps_take arities zero ts k = tt
keeps_take arities (suc n) nil k = tt
keeps_take arities (suc n) (cons t ts) k = (k.0, keeps_take arities n ts k.1)

pub keeps_drop : (arities : List ℕ) (n : ℕ) (ts : Terms) → Keepss arities ts → Keepss arities (drop_terms n ts)
keeps_drop arities zero ts k = k
keeps_drop arities (suc n) nil k = tt
keeps_drop arities (suc n) (cons t ts) k = keeps_drop arities n ts k.1

-- a function cell takes its arguments from the terms behind it
pub before_function : (arities : List ℕ) (f : ℕ) (ts : Terms) → f < first_variable
    → before arities f ts ≡ cons (app f (take_terms (get_or arities f 0) ts)) (drop_terms (get_or arities f 0) ts)
before_function arities f ts h = rw (lt-ltb f first_variable h)

-- a variable cell is one term more
pub before_variable : (arities : List ℕ) (v : ℕ) (ts : Terms) → before arities (first_variable + v) ts ≡ cons (var v) ts
before_variable arities v ts =
    rw (le-ltb (first_variable + v) first_variable (omega arith)) (ap (λ (n : ℕ). cons (var n) ts) (omega arith))

mutual
  pub terms_enc : (arities : List ℕ) (t : Term) (cs : List ℕ) → Keeps arities t
      → terms_of arities (enc t ++ cs) ≡ cons t (terms_of arities cs)
  terms_enc arities (var v) cs k = before_variable arities v (terms_of arities cs)
  terms_enc arities (app f ts) cs k =
      before_function arities f (terms_of arities (encs ts ++ cs)) k.1
      ∙ rw (terms_encs arities ts cs k.3, take_join ts (terms_of arities cs) (get_or arities f 0) k.2, drop_join ts (terms_of arities cs) (get_or arities f 0) k.2)

  pub terms_encs : (arities : List ℕ) (ts : Terms) (cs : List ℕ) → Keepss arities ts
      → terms_of arities (encs ts ++ cs) ≡ join ts (terms_of arities cs)
  terms_encs arities nil cs k = refl
  terms_encs arities (cons t ts) cs k =
      rw append_assoc (terms_enc arities t (encs ts ++ cs) k.0 ∙ ap (cons t) (terms_encs arities ts cs k.1))

-- the terms of a run are those that it was cut by
pub run_terms : (arities cells : List ℕ) (n : ℕ) (r : Run arities cells n) → take_terms n (terms_of arities cells) ≡ r.terms
run_terms arities cells n r =
    rw (r.cut, terms_encs arities r.terms r.rest r.keeps) (take_join r.terms _ n r.many)

-- "a run determines its term"
pub enc_injective : (arities : List ℕ) (t u : Term) → Keeps arities t → Keeps arities u → enc t ≡ enc u → t ≡ u
enc_injective arities t u k l e =
    let p : cons t nil ≡ cons u nil =
    sym (terms_enc arities t [] k) ∙ ap (λ (cs : List ℕ). terms_of arities (cs ++ [])) e ∙ terms_enc arities u [] l
    in
    cc
