-- The terms that stand at a place of one of two atoms: what the place's cell says of them, and where the next ones stand.
use Prim.Native.Nat.{ℕ, zero, suc, ◌+◌, ◌-◌, ◌≤◌, ◌<◌}
use mathlib.Core.Path.{◌≡◌, refl, sym, ap, ap₂, ◌∙◌}
use mathlib.Core.List.{List, ◌++◌, append_assoc, append-nil}
use native.Mathlib.Nat.{zero-add}
use native.Mathlib.Decide.{dec_lt}
use native.Mathlib.Omega.{arith}
use lib.ListN.{length, get_or, take, drop, length-drop}
use lib.Seq.{drop-drop, take-append_seam, drop-append_seam}
use borrow.Author.Tests.{lt-ltb, le-ltb}
use Rattle.terms.specs.Term.{Term, Terms, var, app, nil, cons, count, Subst, sub, subs}
use Rattle.terms.specs.Cells.{enc, encs, Keeps, Keepss, take_terms, terms_of, first_variable, variables, atom_cells, Run}
use Rattle.terms.specs.Walk.{cells_of}
use Rattle.terms.specs.Store.{second_atom, cells_at, terms_at, variable_at, first_term}
use Rattle.terms.specs.Unifying.{CellAt, base_of}
use Rattle.terms.proofs.Runs.{run_terms}
use Rattle.terms.proofs.Steps.{run_cell, run_within, variable_one}
use Rattle.terms.proofs.Walks.{Union, union_one}
use Rattle.terms.proofs.Places.{cells_first, cells_second}

-- an atom's terms in the store's numbering
abbrev pub kept_apart : ℕ → Terms → Terms
kept_apart p ts = subs ts (λ v. var (base_of p + v))

take_subs : (n : ℕ) (ts : Terms) (σ : Subst) → take_terms n (subs ts σ) ≡ subs (take_terms n ts) σ
take_subs zero ts σ = refl
take_subs (suc n) nil σ = refl
take_subs (suc n) (cons t ts) σ = ap (cons (sub t σ)) (take_subs n ts σ)

-- in the first atom the numbers are as they are
mutual
  pub same_numbers : (t : Term) → sub t (λ v. var (0 + v)) ≡ t
  same_numbers (var v) = ap var (zero-add v)
  same_numbers (app f ts) = ap (app f) (same_numbers_all ts)

  pub same_numbers_all : (ts : Terms) → subs ts (λ v. var (0 + v)) ≡ ts
  same_numbers_all nil = refl
  same_numbers_all (cons t ts) = ap₂ cons (same_numbers t) (same_numbers_all ts)

-- the first n terms at a place
pub terms_at_law : (F a b : List ℕ) (p n : ℕ) → take_terms n (terms_at F a b p) ≡ kept_apart p (take_terms n (terms_of F (cells_at a b p)))
terms_at_law F a b p n = go (dec_lt p second_atom)
  where
    go : Dec (p < second_atom) → take_terms n (terms_at F a b p) ≡ kept_apart p (take_terms n (terms_of F (cells_at a b p)))
    go (yes h) = rw (lt-ltb p second_atom h) (sym (same_numbers_all (take_terms n (terms_of F (drop p a)))))
    go (no h) = rw (le-ltb p second_atom (omega arith)) (take_subs n (terms_of F (drop (p - second_atom) b)) (λ v. var (variables + v)))

pub terms_at_run : (F a b : List ℕ) (p n : ℕ) (r : Run F (cells_at a b p) n) → take_terms n (terms_at F a b p) ≡ kept_apart p r.terms
terms_at_run F a b p n r = terms_at_law F a b p n ∙ ap (kept_apart p) (run_terms F (cells_at a b p) n r)

-- any number of cells on within the atom, the cells are those behind
pub cells_on : (a b : List ℕ) (p k : ℕ) → length a ≤ atom_cells → k ≤ length (cells_at a b p) → cells_at a b (p + k) ≡ drop k (cells_at a b p)
cells_on a b p k short within = go (dec_lt p second_atom)
  where
    go : Dec (p < second_atom) → cells_at a b (p + k) ≡ drop k (cells_at a b p)
    go (yes h) =
        let w : k ≤ length (drop p a) = rw (cells_first a b p h) at within in
        let e = length-drop p a in
        rw (cells_first a b p h, cells_first a b (p + k) (omega arith), drop-drop) refl
    go (no h) =
        let e : p + k - second_atom ≡ p - second_atom + k = omega arith in
        rw (cells_second a b p (omega arith), cells_second a b (p + k) (omega arith), drop-drop, e) refl

-- still in the same atom
pub base_on : (a b : List ℕ) (p k : ℕ) → length a ≤ atom_cells → k ≤ length (cells_at a b p) → base_of (p + k) ≡ base_of p
base_on a b p k short within = go (dec_lt p second_atom)
  where
    go : Dec (p < second_atom) → base_of (p + k) ≡ base_of p
    go (yes h) =
        let w : k ≤ length (drop p a) = rw (cells_first a b p h) at within in
        let e = length-drop p a in
        rw (lt-ltb p second_atom h, lt-ltb (p + k) second_atom (omega arith)) refl
    go (no h) = rw (le-ltb p second_atom (omega arith), le-ltb (p + k) second_atom (omega arith)) refl

-- the store's number of a variable's cell
pub variable_number : (p v : ℕ) → variable_at p (first_variable + v) ≡ base_of p + v
variable_number p v = go (dec_lt p second_atom)
  where
    go : Dec (p < second_atom) → variable_at p (first_variable + v) ≡ base_of p + v
    go (yes h) = rw (lt-ltb p second_atom h) (omega arith)
    go (no h) = rw (le-ltb p second_atom (omega arith)) (omega arith)

pub base_small : (p : ℕ) → base_of p ≤ 16
base_small p = go (dec_lt p second_atom)
  where
    go : Dec (p < second_atom) → base_of p ≤ 16
    go (yes h) = rw (lt-ltb p second_atom h) (omega arith)
    go (no h) = rw (le-ltb p second_atom (omega arith)) (omega arith)

-- the set of a variable's cell at a place is that of the term there
pub set_alone : (F a b sets : List ℕ) (p c x : ℕ) → Run F (cells_at a b p) 1 → c ≡ get_or (cells_at a b p) 0 0 → first_variable ≤ c → x ≡ variable_at p c
    → Union (take (cells_of F (cells_at a b p) 1) (cells_at a b p)) (base_of p) sets (get_or sets x 0)
set_alone F a b sets p c x r e l i =
    let h : first_variable ≤ get_or (cells_at a b p) 0 0 = rw (← e) l in
    let n : x ≡ base_of p + (get_or (cells_at a b p) 0 0 - first_variable) =
    i ∙ ap (variable_at p) (omega arith) ∙ variable_number p (get_or (cells_at a b p) 0 0 - first_variable) in
    rw (variable_one F (cells_at a b p) r h, n) (union_one (cells_at a b p) (base_of p) sets (run_cell F (cells_at a b p) 1 (λ z. omega arith) r) h)

-- n terms stand at a place: the first term, and the others where it ends
pub record Next (F a b : List ℕ) (p n : ℕ) : Type 0 where
  pub term : Term
  pub keeps : Keeps F term
  -- the first term in the store's numbering
  pub stands : first_term (terms_at F a b p) ≡ sub term (λ v. var (base_of p + v))
  pub cut : take (cells_of F (cells_at a b p) 1) (cells_at a b p) ≡ enc term
  pub long : cells_of F (cells_at a b p) 1 ≡ length (enc term)
  pub alone : Run F (cells_at a b p) 1
  pub others : Run F (cells_at a b (p + cells_of F (cells_at a b p) 1)) n
  pub together : take_terms (suc n) (terms_at F a b p) ≡ cons (first_term (terms_at F a b p)) (take_terms n (terms_at F a b (p + cells_of F (cells_at a b p) 1)))
  pub first_alone : take_terms 1 (terms_at F a b p) ≡ cons (first_term (terms_at F a b p)) nil

take_first : (n : ℕ) (ts us : Terms) (t : Term) → take_terms (suc n) ts ≡ cons t us → first_term ts ≡ t
take_first n nil us t e = let z : ◌≡◌ {A = ℕ} 0 1 = cc in absurd (omega arith)
take_first n (cons s ss) us t e = cc

pub next_term : (F a b : List ℕ) (p n : ℕ) → length a ≤ atom_cells → Run F (cells_at a b p) (suc n) → Next F a b p n
next_term F a b p n short r = go r.terms r.cut r.keeps r.many
  where
    cs : List ℕ
    cs = cells_at a b p

    go : (ts : Terms) → cells_at a b p ≡ encs ts ++ r.rest → Keepss F ts → count ts ≡ suc n → Next F a b p n
    go nil e k m = absurd (omega arith)
    go (cons t ts) e k m =
        let e₁ : cells_at a b p ≡ enc t ++ (encs ts ++ r.rest) = e ∙ append_assoc (enc t) (encs ts) r.rest in
        let one : Run F (cells_at a b p) 1 =
        record {
          terms = cons t nil;
          rest = encs ts ++ r.rest;
          cut = e₁ ∙ ap (λ (l : List ℕ). l ++ (encs ts ++ r.rest)) (sym (append-nil (enc t)));
          keeps = (k.0, tt);
          many = refl;
        } in
        let all : Run F (cells_at a b p) (suc n) = record { terms = cons t ts; rest = r.rest; cut = e; keeps = k; many = m } in
        let long : cells_of F (cells_at a b p) 1 ≡ length (enc t) =
        ap (λ (us : Terms). length (encs us)) (run_terms F (cells_at a b p) 1 one) ∙ ap length (append-nil (enc t)) in
        let within : cells_of F (cells_at a b p) 1 ≤ length (cells_at a b p) = run_within F (cells_at a b p) 1 one in
        let behind : cells_at a b (p + cells_of F (cells_at a b p) 1) ≡ encs ts ++ r.rest =
        cells_on a b p (cells_of F (cells_at a b p) 1) short within ∙ ap₂ drop long e₁ ∙ drop-append_seam (enc t) (encs ts ++ r.rest) in
        let rest-run : Run F (cells_at a b (p + cells_of F (cells_at a b p) 1)) n =
        record { terms = ts; rest = r.rest; cut = behind; keeps = k.1; many = omega (arith, m) } in
        let first : take_terms (suc n) (terms_at F a b p) ≡ cons (sub t (λ v. var (base_of p + v))) (kept_apart p ts) = terms_at_run F a b p (suc n) all in
        let stands : first_term (terms_at F a b p) ≡ sub t (λ v. var (base_of p + v)) = take_first n (terms_at F a b p) (kept_apart p ts) _ first in
        let later : take_terms n (terms_at F a b (p + cells_of F (cells_at a b p) 1)) ≡ kept_apart p ts =
        terms_at_run F a b (p + cells_of F (cells_at a b p) 1) n rest-run
        ∙ ap (λ (k : ℕ). subs ts (λ v. var (k + v))) (base_on a b p (cells_of F (cells_at a b p) 1) short within) in
        record {
          term = t;
          keeps = k.0;
          stands = stands;
          cut = ap₂ take long e₁ ∙ take-append_seam (enc t) (encs ts ++ r.rest);
          long = long;
          alone = one;
          others = rest-run;
          together = first ∙ ap₂ cons (sym stands) (sym later);
          first_alone = terms_at_run F a b p 1 one ∙ ap (λ (u : Term). cons u nil) (sym stands);
        }

-- what the cell at a place says of the term there
pub data Seen (F a b : List ℕ) (p : ℕ) : Type 0 where
  a_variable : first_variable ≤ get_or (cells_at a b p) 0 0 → get_or (cells_at a b p) 0 0 < 32784
      → first_term (terms_at F a b p) ≡ var (variable_at p (get_or (cells_at a b p) 0 0))
      → variable_at p (get_or (cells_at a b p) 0 0) < 32 → Seen F a b p
  a_function : get_or (cells_at a b p) 0 0 < first_variable → get_or (cells_at a b p) 0 0 < length F
      → Run F (cells_at a b (p + 1)) (get_or F (get_or (cells_at a b p) 0 0) 0)
      → first_term (terms_at F a b p) ≡ app (get_or (cells_at a b p) 0 0) (take_terms (get_or F (get_or (cells_at a b p) 0 0) 0) (terms_at F a b (p + 1)))
      → Seen F a b p

pub seen : (F a b : List ℕ) (p : ℕ) → length a ≤ atom_cells → Run F (cells_at a b p) 1 → Seen F a b p
seen F a b p short r = go r.terms r.cut r.keeps r.many r
  where
    go : (ts : Terms) → cells_at a b p ≡ encs ts ++ r.rest → Keepss F ts → count ts ≡ 1 → Run F (cells_at a b p) 1 → Seen F a b p
    go nil e k m w = absurd (omega arith)
    go (cons (var v) ts) e k m w =
        let c : get_or (cells_at a b p) 0 0 ≡ first_variable + v = ap (λ (l : List ℕ). get_or l 0 0) e in
        let n : variable_at p (first_variable + v) ≡ base_of p + v = variable_number p v in
        let s : first_term (terms_at F a b p) ≡ var (base_of p + v) =
        take_first 0 (terms_at F a b p) (kept_apart p ts) _
        (terms_at_run F a b p 1 (record { terms = cons (var v) ts; rest = r.rest; cut = e; keeps = k; many = m })) in
        a_variable (omega arith) (omega (arith, k.0)) (s ∙ ap var (sym n ∙ ap (variable_at p) (sym c)))
        (rw (c, n) (omega (arith, base_small p, k.0)))
    go (cons (app f us) ts) e k m w =
        let c : get_or (cells_at a b p) 0 0 ≡ f = ap (λ (l : List ℕ). get_or l 0 0) e in
        let some : 1 ≤ length (cells_at a b p) = run_cell F (cells_at a b p) 1 (λ z. omega arith) w in
        let behind : cells_at a b (p + 1) ≡ encs us ++ (encs ts ++ r.rest) =
        cells_on a b p 1 short some ∙ ap (drop 1) e ∙ append_assoc (encs us) (encs ts) r.rest in
        let run : Run F (cells_at a b (p + 1)) (get_or F f 0) =
        record { terms = us; rest = encs ts ++ r.rest; cut = behind; keeps = k.0.3; many = k.0.2 } in
        let s : first_term (terms_at F a b p) ≡ app f (kept_apart p us) =
        take_first 0 (terms_at F a b p) (kept_apart p ts) _
        (terms_at_run F a b p 1 (record { terms = cons (app f us) ts; rest = r.rest; cut = e; keeps = k; many = m })) in
        let t : take_terms (get_or F f 0) (terms_at F a b (p + 1)) ≡ kept_apart p us =
        terms_at_run F a b (p + 1) (get_or F f 0) run ∙ ap (λ (x : ℕ). subs us (λ v. var (x + v))) (base_on a b p 1 short some) in
        a_function (rw c k.0.1) (rw c k.0.0) (rw c run) (rw c (s ∙ ap (app f) (sym t)))

-- a term that stands at a place has a cell there
pub cell_at : (F a b : List ℕ) (p : ℕ) → length a ≤ atom_cells → Run F (cells_at a b p) 1 → CellAt a b p
cell_at F a b p short r =
    record { some = run_cell F (cells_at a b p) 1 (λ z. omega arith) r; small = go (seen F a b p short r) }
  where
    go : Seen F a b p → get_or (cells_at a b p) 0 0 < 32784
    go (a_variable h l e s) = l
    go (a_function h d w e) = omega arith
