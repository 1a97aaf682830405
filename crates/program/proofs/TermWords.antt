-- The terms that are read from words are the terms whose cells the words are, both ways.
use Prim.Native.Nat.{ℕ, zero, suc, ◌+◌, ◌-◌, ◌≤◌, ◌<◌}
use native.Mathlib.Omega.{arith}
use mathlib.Core.Path.{◌≡◌, refl, sym, ap, ap₂, ◌∙◌}
use mathlib.Core.List.{List, [], ◌∷◌, ◌++◌}
use lib.ListN.{length, get_or}
use lib.Dec.{ltb}
use borrow.Author.Tests.{lt-ltb, le-ltb, ltb-true, ltb-false}
use Rattle.terms.specs.Term.{Terms, nil, cons, count}
use Rattle.terms.specs.Cells.{encs, Keepss, atom_cells, first_variable, variables, take_terms, drop_terms, pick}
use Rattle.terms.proofs.Runs.{encs_split, count_take, count_drop, keeps_take, keeps_drop}
use Rattle.program.specs.Limits.{max_variable}
use Rattle.program.specs.Reply.{too_soon, undeclared, bad_variable, long_atom}
use Rattle.program.specs.Reading.{Decoded, wrong, right}
use Rattle.program.specs.Atoms.{Cell, Bad, Opens, meet, variable_of, symbol_of, cell_of, build, opened, terms}
use Rattle.program.specs.Within.{after, afters, Numbereds}
use Rattle.program.proofs.Taking.{pick_cases, terms_cell, no_terms}
use Rattle.program.proofs.Words.{next_right}

-- what a cell says that opens so many terms: a declared function, or a variable that skips no number
pub data Says (functions : List ℕ) (taken seen w : ℕ) : Cell → Type 0 where
  bad : {number : ℕ} → Says functions taken seen w (Bad number)
  function : taken < atom_cells → w < first_variable → w < length functions → Says functions taken seen w (Opens (get_or functions w 0) seen)
  variable : taken < atom_cells → first_variable ≤ w → w - first_variable < variables → w - first_variable ≤ seen
      → Says functions taken seen w (Opens 0 (meet seen (w - first_variable)))

pub cell_says : (functions : List ℕ) (taken seen w : ℕ) → Says functions taken seen w (cell_of functions taken seen w)
cell_says functions taken seen w =
    pick_cases P (ltb taken atom_cells) (symbol_of functions seen w) (Bad long_atom)
    (λ t. pick_cases P (ltb w first_variable)
    (pick (ltb w (length functions)) (Opens (get_or functions w 0) seen) (Bad undeclared))
    (variable_of seen (w - first_variable))
    (λ l. pick_cases P (ltb w (length functions)) (Opens (get_or functions w 0) seen) (Bad undeclared)
    (λ d. function (ltb-true _ _ t) (ltb-true _ _ l) (ltb-true _ _ d)) (λ _. bad))
    (λ l. pick_cases P (ltb max_variable (w - first_variable)) (Bad bad_variable)
    (pick (ltb seen (w - first_variable)) (Bad bad_variable) (Opens 0 (meet seen (w - first_variable))))
    (λ _. bad)
    (λ m. pick_cases P (ltb seen (w - first_variable)) (Bad bad_variable) (Opens 0 (meet seen (w - first_variable))) (λ _. bad)
    (λ k. variable (ltb-true _ _ t) (ltb-false _ _ l) (let h : w - first_variable ≤ max_variable = ltb-false _ _ m in omega arith) (ltb-false _ _ k)))))
    (λ _. bad)
  where
    P : Cell → Type 0
    P = Says functions taken seen w

-- the first terms and those behind them: the variables met after them, and their numbers
pub afters_split : (n seen : ℕ) (ts : Terms) → afters (afters seen (take_terms n ts)) (drop_terms n ts) ≡ afters seen ts
afters_split zero seen ts = refl
afters_split (suc n) seen nil = refl
afters_split (suc n) seen (cons t ts) = afters_split n (after seen t) ts

pub numbered_take : (n seen : ℕ) (ts : Terms) → Numbereds seen ts → Numbereds seen (take_terms n ts)
numbered_take zero seen ts k = tt
numbered_take (suc n) seen nil k = tt
numbered_take (suc n) seen (cons t ts) k = (k.0, numbered_take n (after seen t) ts k.1)

pub numbered_drop : (n seen : ℕ) (ts : Terms) → Numbereds seen ts → Numbereds (afters seen (take_terms n ts)) (drop_terms n ts)
numbered_drop zero seen ts k = k
numbered_drop (suc n) seen nil k = tt
numbered_drop (suc n) seen (cons t ts) k = numbered_drop n (after seen t) ts k.1

-- what is known of terms that were read
pub record TermsRead (functions ws : List ℕ) (n taken seen : ℕ) (ts : Terms) (seen' : ℕ) (rest : List ℕ) : Type 0 where
  pub are : ws ≡ encs ts ++ rest
  pub number : count ts ≡ n
  pub keeps : Keepss functions ts
  pub numbered : Numbereds seen ts
  pub meets : seen' ≡ afters seen ts
  pub short : taken + length (encs ts) ≤ atom_cells

cell_read : (functions ws : List ℕ) (w n taken seen arity now : ℕ) (ts : Terms) (seen' : ℕ) (rest : List ℕ)
    → Says functions taken seen w (Opens arity now)
    → TermsRead functions ws (arity + n) (suc taken) now ts seen' rest
    → TermsRead functions (w ∷ ws) (suc n) taken seen (build w arity ts) seen' rest
cell_read functions ws w n taken seen arity now ts seen' rest (function first low declared) r =
    let whole : encs (take_terms arity ts) ++ encs (drop_terms arity ts) ≡ encs ts = encs_split arity ts in
    rw (lt-ltb w first_variable low)
    (record {
      are = ap (λ (l : List ℕ). w ∷ l) (r.are ∙ ap (λ (l : List ℕ). l ++ rest) (sym whole));
      number = ap suc (count_drop arity n ts r.number);
      keeps = ((declared, low, count_take arity n ts r.number, keeps_take functions arity ts r.keeps), keeps_drop functions arity ts r.keeps);
      numbered = (numbered_take arity seen ts r.numbered, numbered_drop arity seen ts r.numbered);
      meets = r.meets ∙ sym (afters_split arity seen ts);
      short = rw whole (omega (arith, r.short));
    })
cell_read functions ws w n taken seen arity now ts seen' rest (variable first high small known) r =
    let here : w ≡ first_variable + (w - first_variable) = omega arith in
    rw (le-ltb w first_variable high)
    (record {
      are = ap₂ (λ (x : ℕ) (l : List ℕ). x ∷ l) here r.are;
      number = ap suc (let n' : count ts ≡ n = omega (arith, r.number) in n');
      keeps = (small, r.keeps);
      numbered = (known, r.numbered);
      meets = r.meets;
      short = omega (arith, r.short);
    })

no_words : (functions : List ℕ) (n taken seen : ℕ) → terms functions [] (suc n) taken seen ≡ wrong too_soon []
unfolding terms
no_words functions n taken seen = refl

none_read : (functions ws : List ℕ) (taken seen : ℕ) (ts : Terms) (seen' : ℕ) (rest : List ℕ) → taken ≤ atom_cells
    → ◌≡◌ {A = Decoded (Terms × ℕ)} (right (nil, seen) ws) (right (ts, seen') rest) → TermsRead functions ws zero taken seen ts seen' rest
none_read functions ws taken seen ts seen' rest h q =
    let same : ◌≡◌ {A = Terms × ℕ} (nil, seen) (ts, seen') = cc in
    let left : ws ≡ rest = cc in
    let nothing : nil ≡ ts = ap (λ (x : Terms × ℕ). x.0) same in
    let met : seen ≡ seen' = ap (λ (x : Terms × ℕ). x.1) same in
    rw (← nothing, ← met) (record { are = left; number = refl; keeps = tt; numbered = tt; meets = refl; short = omega arith })

says_short : {functions : List ℕ} {taken seen w arity now : ℕ} → Says functions taken seen w (Opens arity now) → taken < atom_cells
says_short (function first low declared) = first
says_short (variable first high small known) = first

built_read : (functions ws : List ℕ) (w n taken seen arity now : ℕ) (us ts : Terms) (s seen' : ℕ) (l rest : List ℕ)
    → Says functions taken seen w (Opens arity now)
    → TermsRead functions ws (arity + n) (suc taken) now us s l
    → ◌≡◌ {A = Decoded (Terms × ℕ)} (right (build w arity us, s) l) (right (ts, seen') rest)
    → TermsRead functions (w ∷ ws) (suc n) taken seen ts seen' rest
built_read functions ws w n taken seen arity now us ts s seen' l rest says r q =
    let same : ◌≡◌ {A = Terms × ℕ} (build w arity us, s) (ts, seen') = cc in
    let left : l ≡ rest = cc in
    let built : build w arity us ≡ ts = ap (λ (x : Terms × ℕ). x.0) same in
    let met : s ≡ seen' = ap (λ (x : Terms × ℕ). x.1) same in
    rw (← built, ← met, ← left) (cell_read functions ws w n taken seen arity now us s l says r)

opened_read : (functions ws : List ℕ) (w n taken seen : ℕ) (ts : Terms) (seen' : ℕ) (rest : List ℕ) (x : Cell) → Says functions taken seen w x
    → opened x w ws (λ arity now. terms functions ws (arity + n) (suc taken) now) ≡ right (ts, seen') rest
    → ((arity now : ℕ) (us : Terms) (s : ℕ) (l : List ℕ) → suc taken ≤ atom_cells
    → terms functions ws (arity + n) (suc taken) now ≡ right (us, s) l → TermsRead functions ws (arity + n) (suc taken) now us s l)
    → TermsRead functions (w ∷ ws) (suc n) taken seen ts seen' rest
opened_read functions ws w n taken seen ts seen' rest (Bad number) says q ih = let z : ◌≡◌ {A = ℕ} 0 1 = cc in absurd (omega arith)
opened_read functions ws w n taken seen ts seen' rest (Opens arity now) says q ih =
    let short : suc taken ≤ atom_cells = says_short says in
    let one = next_right (terms functions ws (arity + n) (suc taken) now) (λ r l. right (build w arity r.0, r.1) l) (ts, seen') rest q in
    built_read functions ws w n taken seen arity now one.0.0 ts one.0.1 seen' one.1 rest says
    (ih arity now one.0.0 one.0.1 one.1 short one.2) one.3

-- what is read are terms, and the words are their cells
pub terms_read : (functions ws : List ℕ) (n taken seen : ℕ) (ts : Terms) (seen' : ℕ) (rest : List ℕ) → taken ≤ atom_cells
    → terms functions ws n taken seen ≡ right (ts, seen') rest → TermsRead functions ws n taken seen ts seen' rest
terms_read functions [] zero taken seen ts seen' rest h e = none_read functions [] taken seen ts seen' rest h (sym (no_terms functions [] taken seen) ∙ e)
terms_read functions [] (suc n) taken seen ts seen' rest h e =
    let q = sym (no_words functions n taken seen) ∙ e in
    let z : ◌≡◌ {A = ℕ} 0 1 = cc in
    absurd (omega arith)
terms_read functions (w ∷ ws) zero taken seen ts seen' rest h e =
    none_read functions (w ∷ ws) taken seen ts seen' rest h (sym (no_terms functions (w ∷ ws) taken seen) ∙ e)
terms_read functions (w ∷ ws) (suc n) taken seen ts seen' rest h e =
    opened_read functions ws w n taken seen ts seen' rest (cell_of functions taken seen w) (cell_says functions taken seen w)
    (sym (terms_cell functions w ws n taken seen (cell_of functions taken seen w) refl) ∙ e)
    (λ arity now us s l short q. terms_read functions ws (arity + n) (suc taken) now us s l short q)
