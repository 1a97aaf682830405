-- The variables of a term and those of its run of cells: the same, and at most 15.
use Prim.Native.Nat.{ℕ, zero, suc, ◌+◌, ◌-◌, ◌<◌}
use mathlib.Core.Path.{◌≡◌, sym, ap, ◌∙◌}
use mathlib.Core.Logic.{◌⊎◌, inl, inr, ◌↔◌, ⊎_elim}
use mathlib.Core.List.{List, [], ◌∷◌, ◌++◌}
use native.Mathlib.Decide.{dec_lt}
use native.Mathlib.Omega.{arith}
use lib.ListN.{length, get_or, length-append, get_or-append}
use lib.Seq.{get_or-append-add}
use Rattle.terms.specs.Term.{Term, Terms, var, app, nil, cons, Occ, Occs}
use Rattle.terms.specs.Cells.{enc, encs, Keeps, Keepss, variables, Atom}
use Rattle.terms.specs.Walk.{InRun, Cells}

in_append : (v : ℕ) (l m : List ℕ) → InRun v (l ++ m) ↔ (InRun v l ⊎ InRun v m)
in_append v [] m = (inr, ⊎_elim absurd (λ o. o))
in_append v (c ∷ cs) m = (
  ⊎_elim (λ e. inl (inl e)) (λ o. ⊎_elim (λ q. inl (inr q)) inr ((in_append v cs m).0 o)),
  ⊎_elim (⊎_elim inl (λ q. inr ((in_append v cs m).1 (inl q)))) (λ q. inr ((in_append v cs m).1 (inr q))),
)

-- the variables whose cells stand in a term's run are the term's
mutual
  pub in_run_occ : (F : List ℕ) (v : ℕ) (t : Term) → Keeps F t → InRun v (enc t) ↔ Occ v t
  in_run_occ F v (var w) k = (⊎_elim (λ e. omega arith) absurd, λ e. inl (omega arith))
  in_run_occ F v (app f ts) k = (
    ⊎_elim (λ e. absurd (omega (arith, k.1))) (in_run_occs F v ts k.3).0,
    λ o. inr ((in_run_occs F v ts k.3).1 o),
  )

  pub in_run_occs : (F : List ℕ) (v : ℕ) (ts : Terms) → Keepss F ts → InRun v (encs ts) ↔ Occs v ts
  in_run_occs F v nil k = (λ o. o, λ o. o)
  in_run_occs F v (cons t ts) k = (
    (λ o. ⊎_elim (λ q. inl ((in_run_occ F v t k.0).0 q)) (λ q. inr ((in_run_occs F v ts k.1).0 q)) ((in_append v (enc t) (encs ts)).0 o)),
    (λ o. (in_append v (enc t) (encs ts)).1 (⊎_elim (λ q. inl ((in_run_occ F v t k.0).1 q)) (λ q. inr ((in_run_occs F v ts k.1).1 q)) o)),
  )

cells_append : (l m : List ℕ) → Cells l → Cells m → Cells (l ++ m)
cells_append l m p q i h = go (dec_lt i (length l))
  where
    go : Dec (i < length l) → get_or (l ++ m) i 0 < 32784
    go (yes w) = rw (get_or-append l m 0 i w) (p i w)
    go (no w) =
        let e : length l + (i - length l) ≡ i = omega arith in
        let f : get_or (l ++ m) i 0 ≡ get_or m (i - length l) 0 = ap (λ (j : ℕ). get_or (l ++ m) j 0) (sym e) ∙ get_or-append-add l m (i - length l) 0 in
        rw f (q (i - length l) (omega (arith, simp length-append at h)))

-- a term's cells are functions and variables at most 15
mutual
  pub cells_enc : (F : List ℕ) (t : Term) → Keeps F t → Cells (enc t)
  cells_enc F (var v) k zero h = omega arith
  cells_enc F (var v) k (suc i) h = absurd (omega arith)
  cells_enc F (app f ts) k zero h = omega (arith, k.1)
  cells_enc F (app f ts) k (suc i) h = cells_encs F ts k.3 i (omega arith)

  pub cells_encs : (F : List ℕ) (ts : Terms) → Keepss F ts → Cells (encs ts)
  cells_encs F nil k i h = absurd (omega arith)
  cells_encs F (cons t ts) k i h = cells_append (enc t) (encs ts) (λ j l. cells_enc F t k.0 j l) (λ j l. cells_encs F ts k.1 j l) i h

-- "v is at most 15", in terms and atoms
mutual
  pub keeps_below : (F : List ℕ) (t : Term) → Keeps F t → (v : ℕ) → Occ v t → v < variables
  keeps_below F (var w) k v o = rw o k
  keeps_below F (app f ts) k v o = keepss_below F ts k.3 v o

  pub keepss_below : (F : List ℕ) (ts : Terms) → Keepss F ts → (v : ℕ) → Occs v ts → v < variables
  keepss_below F nil k v o = absurd o
  keepss_below F (cons t ts) k v (inl o) = keeps_below F t k.0 v o
  keepss_below F (cons t ts) k v (inr o) = keepss_below F ts k.1 v o

pub atom_variables : {P F : List ℕ} {A : Term} → Atom P F A → (v : ℕ) → Occ v A → v < variables
atom_variables {F = F} a v o = keepss_below F a.arguments a.keeps v (rw a.is at o)
