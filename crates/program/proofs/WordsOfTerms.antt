-- The cells of terms within the limits are read as those terms.
use Prim.Native.Nat.{ℕ, suc, ◌+◌, ◌-◌, ◌≤◌, ◌<◌}
use native.Mathlib.Omega.{arith}
use native.Mathlib.Nat.{zero-add, add-zero}
use mathlib.Core.Path.{◌≡◌, refl, sym, ap, ap₂, ◌∙◌}
use mathlib.Core.List.{List, ◌++◌, append_assoc}
use lib.ListN.{length, get_or, length-append}
use borrow.Author.Tests.{lt-ltb, le-ltb}
use Rattle.terms.specs.Term.{Term, Terms, var, app, nil, cons, count, join}
use Rattle.terms.specs.Cells.{enc, encs, Keeps, Keepss, atom_cells, first_variable}
use Rattle.terms.proofs.Runs.{take_join, drop_join, join_nil}
use Rattle.program.specs.Limits.{max_variable}
use Rattle.program.specs.Reading.{Decoded, wrong, right, next}
use Rattle.program.specs.Atoms.{Opens, meet, cell_of, build, terms}
use Rattle.program.specs.Within.{after, afters, Numbered, Numbereds}
use Rattle.program.proofs.Taking.{terms_cell, no_terms}

pub function_opens : (functions : List ℕ) (taken seen w : ℕ) → taken < atom_cells → w < first_variable → w < length functions
    → cell_of functions taken seen w ≡ Opens (get_or functions w 0) seen
function_opens functions taken seen w h l d = rw (lt-ltb _ _ h, lt-ltb _ _ l, lt-ltb _ _ d)

pub variable_opens : (functions : List ℕ) (taken seen v : ℕ) → taken < atom_cells → v ≤ max_variable → v ≤ seen
    → cell_of functions taken seen (first_variable + v) ≡ Opens 0 (meet seen v)
variable_opens functions taken seen v h s k =
    let high : first_variable ≤ first_variable + v = omega arith in
    let same : first_variable + v - first_variable ≡ v = omega arith in
    rw (lt-ltb _ _ h, le-ltb _ _ high) (rw same (rw (le-ltb _ _ s, le-ltb _ _ k)))

build_function : (w : ℕ) (ts us : Terms) → w < first_variable → build w (count ts) (join ts us) ≡ cons (app w ts) us
build_function w ts us h = rw (lt-ltb _ _ h) (ap₂ (λ (x y : Terms). cons (app w x) y) (take_join ts us (count ts) refl) (drop_join ts us (count ts) refl))

build_variable : (v : ℕ) (us : Terms) → build (first_variable + v) 0 us ≡ cons (var v) us
build_variable v us =
    let high : first_variable ≤ first_variable + v = omega arith in
    let same : first_variable + v - first_variable ≡ v = omega arith in
    rw (le-ltb _ _ high) (rw same)

-- terms put before the terms that were read
abbrev pub before : Terms → Decoded (Terms × ℕ) → Decoded (Terms × ℕ)
before ts r = next r (λ x rest. right (join ts x.0, x.1) rest)

before_before : (ts us : Terms) (r : Decoded (Terms × ℕ)) → before ts (before us r) ≡ before (join ts us) r
before_before ts us (wrong number rest) = refl
before_before ts us (right x rest) = ap (λ (y : Terms). right (y, x.1) rest) (join_join ts us x.0)
  where
    join_join : (xs ys zs : Terms) → join xs (join ys zs) ≡ join (join xs ys) zs
    join_join nil ys zs = refl
    join_join (cons t xs) ys zs = ap (cons t) (join_join xs ys zs)

before_nil : (r : Decoded (Terms × ℕ)) → before nil r ≡ r
before_nil (wrong number rest) = refl
before_nil (right x rest) = refl

-- a function's term is built of its arguments
before_build : (w : ℕ) (ts : Terms) (r : Decoded (Terms × ℕ)) → w < first_variable
    → next (before ts r) (λ x rest. right (build w (count ts) x.0, x.1) rest) ≡ before (cons (app w ts) nil) r
before_build w ts (wrong number rest) h = refl
before_build w ts (right x rest) h = ap (λ (y : Terms). right (y, x.1) rest) (build_function w ts x.0 h)

variable_build : (v : ℕ) (r : Decoded (Terms × ℕ)) → next r (λ x rest. right (build (first_variable + v) 0 x.0, x.1) rest) ≡ before (cons (var v) nil) r
variable_build v (wrong number rest) = refl
variable_build v (right x rest) = ap (λ (y : Terms). right (y, x.1) rest) (build_variable v x.0)

mutual
  pub read_term : (t : Term) (functions rest : List ℕ) (n taken seen : ℕ) → Keeps functions t → Numbered seen t → taken + length (enc t) ≤ atom_cells
      → terms functions (enc t ++ rest) (suc n) taken seen ≡ before (cons t nil) (terms functions rest n (taken + length (enc t)) (after seen t))
  read_term (var v) functions rest n taken seen k m s =
      let here : taken < atom_cells = omega arith in
      let small : v ≤ max_variable = omega arith in
      let one : taken + length (enc (var v)) ≡ suc taken = omega arith in
      terms_cell functions (first_variable + v) rest n taken seen (Opens 0 (meet seen v)) (variable_opens functions taken seen v here small m)
      ∙ rw (one, zero-add n) (variable_build v (terms functions rest n (suc taken) (meet seen v)))
  read_term (app f ts) functions rest n taken seen k m s =
      let here : taken < atom_cells = omega arith in
      let more : suc taken + length (encs ts) ≤ atom_cells = omega arith in
      let sum : suc taken + length (encs ts) ≡ taken + length (enc (app f ts)) = omega arith in
      terms_cell functions f (encs ts ++ rest) n taken seen (Opens (get_or functions f 0) seen) (function_opens functions taken seen f here k.1 k.0)
      ∙ rw (← k.2, read_terms ts functions rest n (suc taken) seen k.3 m more, sum)
      (before_build f ts (terms functions rest n (taken + length (enc (app f ts))) (afters seen ts)) k.1)

  pub read_terms : (ts : Terms) (functions rest : List ℕ) (n taken seen : ℕ) → Keepss functions ts → Numbereds seen ts → taken + length (encs ts) ≤ atom_cells
      → terms functions (encs ts ++ rest) (count ts + n) taken seen ≡ before ts (terms functions rest n (taken + length (encs ts)) (afters seen ts))
  read_terms nil functions rest n taken seen k m s = rw (zero-add n, add-zero taken) (sym (before_nil (terms functions rest n taken seen)))
  read_terms (cons t ts) functions rest n taken seen k m s =
      let size : length (enc t ++ encs ts) ≡ length (enc t) + length (encs ts) = length-append (enc t) (encs ts) in
      let first : taken + length (enc t) ≤ atom_cells = omega arith in
      let all : taken + length (enc t) + length (encs ts) ≤ atom_cells = omega arith in
      let sum : taken + length (enc t) + length (encs ts) ≡ taken + length (enc t ++ encs ts) = omega arith in
      let one : suc (count ts) + n ≡ suc (count ts + n) = omega arith in
      rw (append_assoc (enc t) (encs ts) rest, one)
      (read_term t functions (encs ts ++ rest) (count ts + n) taken seen k.0 m.0 first
      ∙ rw (read_terms ts functions rest n (taken + length (enc t)) (after seen t) k.1 m.1 all, sum)
      (before_before (cons t nil) ts (terms functions rest n (taken + length (enc t ++ encs ts)) (afters (after seen t) ts))))

-- the cells of an atom's arguments, behind its predicate
pub read_arguments : (ts : Terms) (functions rest : List ℕ) (seen : ℕ) → Keepss functions ts → Numbereds seen ts → suc (length (encs ts)) ≤ atom_cells
    → terms functions (encs ts ++ rest) (count ts) 1 seen ≡ right (ts, afters seen ts) rest
read_arguments ts functions rest seen k m s =
    let all : 1 + length (encs ts) ≤ atom_cells = omega arith in
    rw (← add-zero (count ts))
    (read_terms ts functions rest 0 1 seen k m all
    ∙ rw (no_terms functions rest (1 + length (encs ts)) (afters seen ts)) (ap (λ (y : Terms). right (y, afters seen ts) rest) (join_nil ts)))
