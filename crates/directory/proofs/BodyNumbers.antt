-- The numbers of the body atoms: those of clause k begin where those of the clauses before it end.
use Prim.Native.Nat.{ℕ, zero, suc, ◌+◌, ◌≤◌, ◌<◌}
use native.Mathlib.Numerals.{add-one}
use native.Mathlib.Omega.{arith}
use mathlib.Core.Path.{◌≡◌, sym, ap, ◌∙◌}
use mathlib.Core.Logic.{◌⊎◌, inl, inr}
use mathlib.Core.List.{List, [], ◌∷◌, ◌++◌}
use lib.ListN.{length, take, drop, length-append, take-append-drop}
use lib.Seq.{take-length}
use Rattle.terms.specs.Term.{Term}
use Rattle.program.specs.Program.{Nth, here, there, Clause, Program, bodies}
use Rattle.program.proofs.Nths.{nth_left, nth_right, nth_append, nth_below}
use Rattle.directory.specs.Lists.{first_of}
use Rattle.directory.proofs.Cuts.{nth_drop}
use Rattle.directory.proofs.ClausesWalk.{bodies_append, bodies_next}

pub first_next : (p : Program) {k : ℕ} {c : Clause} → Nth p.clauses k c → first_of p (k + 1) ≡ first_of p k + length c.body
first_next p {k} {c} q = ap (λ (n : ℕ). first_of p n) (add-one k) ∙ ap length (bodies_next q) ∙ length-append (bodies (take k p.clauses)) c.body

-- a body atom under its number
pub body_number : (p : Program) {k i : ℕ} {c : Clause} {A : Term} → Nth p.clauses k c → Nth c.body i A → Nth (bodies p.clauses) (first_of p k + i) A
body_number p {k} {i} {c} {A} q h = rw parted (nth_right (bodies (take k p.clauses)) (nth_left (bodies (drop (suc k) p.clauses)) h))
  where
    parted : bodies p.clauses ≡ bodies (take k p.clauses) ++ (c.body ++ bodies (drop (suc k) p.clauses))
    parted =
        ap bodies (sym (take-append-drop k p.clauses))
        ∙ bodies_append (take k p.clauses) (drop k p.clauses)
        ∙ ap (λ (cs : List Clause). bodies (take k p.clauses) ++ bodies cs) (nth_drop q)

-- later clauses begin later
pub bodies_grow : (cs : List Clause) (x k : ℕ) → x ≤ k → length (bodies (take x cs)) ≤ length (bodies (take k cs))
bodies_grow cs zero k h = omega arith
bodies_grow [] (suc x) k h = omega arith
bodies_grow (c ∷ cs) (suc x) zero h = absurd (omega arith)
bodies_grow (c ∷ cs) (suc x) (suc k) h =
    let below = bodies_grow cs x k (omega arith) in
    omega (arith, length-append c.body (bodies (take x cs)), length-append c.body (bodies (take k cs)))

-- a body atom's number is before those of later clauses
pub number_before : (p : Program) {x y k : ℕ} {c : Clause} → Nth p.clauses x c → y < length c.body → x < k → first_of p x + y < first_of p k
number_before p {x} {y} {k} q h l =
    let e = first_next p q in
    let g = bodies_grow p.clauses (x + 1) k (omega arith) in
    omega arith

pub first_within : (p : Program) (k : ℕ) → k ≤ length p.clauses → first_of p k ≤ length (bodies p.clauses)
first_within p k h =
    let g = bodies_grow p.clauses k (length p.clauses) h in
    let e : length (bodies (take (length p.clauses) p.clauses)) ≡ length (bodies p.clauses) = ap (λ (cs : List Clause). length (bodies cs)) (take-length p.clauses) in
    omega arith

-- each number is that of a place of a clause
pub each_number : (cs : List Clause) (j : ℕ) {A : Term} → Nth (bodies cs) j A
    → (k : ℕ) × (i : ℕ) × (c : Clause) × Nth cs k c × Nth c.body i A × (j ≡ length (bodies (take k cs)) + i)
each_number [] j q = let l = nth_below q in absurd (omega arith)
each_number (c ∷ cs) j {A} q = by (λ y h. each_number cs y h) (nth_append c.body (bodies cs) q)
  where
    by : ((y : ℕ) → Nth (bodies cs) y A → (k : ℕ) × (i : ℕ) × (d : Clause) × Nth cs k d × Nth d.body i A × (y ≡ length (bodies (take k cs)) + i))
        → Nth c.body j A ⊎ ((y : ℕ) × (j ≡ length c.body + y) × Nth (bodies cs) y A)
        → (k : ℕ) × (i : ℕ) × (d : Clause) × Nth (c ∷ cs) k d × Nth d.body i A × (j ≡ length (bodies (take k (c ∷ cs))) + i)
    by below (inl h) = (0, j, c, here, h, omega arith)
    by below (inr (y, e, h)) =
        let (k, i, d, q', h', e') = below y h in
        (suc k, i, d, there q', h', omega (arith, length-append c.body (bodies (take k cs))))
