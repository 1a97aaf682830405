-- The mode rules, over a domain of marks: what one application of a rule gives from a set of rows.
use Rattle.std.specs.Prelude.{ℕ, suc, length}
use Rattle.terms.specs.Term.{Term}
use Rattle.marks.specs.Domain.{Domain}
use Rattle.program.specs.Program.{Nth, Clause, Program}
use Rattle.program.specs.Shapes.{shapes, shape_number, number, Listed}

-- "For calls and solutions a is the shape; for conts a is the clause (from 1), b the place."
pub data Row (Mark : Type 0) : Type 0 where
  call : ℕ → Mark → Row Mark
  cont : ℕ → ℕ → Mark → Row Mark
  solution : ℕ → Mark → Row Mark
  deriving Discrete as Row-discrete

module _ (D : Domain) (p : Program) where
  -- "for clause n with head H and body A1 to Am": the marks with which the rules come past the first i body atoms of clause k, both counted from 0
  pub data Reached (T : Row D.Mark → Type 0) : ℕ → ℕ → D.Mark → Type 0 where
    -- "1. A call row whose shape unifies with H passes its marks to H (itself with none)."
    first : {k s : ℕ} {c : Clause} {S : Term} {M N : D.Mark}
        → Nth p.clauses k c → Nth (shapes p) s S
        → T (call s M) → D.Pass S M c.head D.none N
        → Reached T k 0 N
    -- "2. A cont row (n, i) and any solution row whose shape unifies with Ai give the cont row's marks together with those that the solution passes to Ai (itself with none)."
    next : {k i s : ℕ} {c : Clause} {A S : Term} {M L Q N : D.Mark}
        → Nth p.clauses k c → Nth c.body i A → Nth (shapes p) s S
        → T (cont (suc k) (suc i) M) → T (solution s L) → D.Pass S L A D.none Q → D.Join M Q N
        → Reached T k (suc i) N

  pub data Gives (T : Row D.Mark → Type 0) : Row D.Mark → Type 0 where
    -- "If m > 0 this gives a call row for A1 and a cont row (n, 1)." "If i < m: a call row for A(i+1) and a cont row (n, i+1)."
    calls : {k i : ℕ} {c : Clause} {A : Term} {N R : D.Mark}
        → Reached T k i N → Nth p.clauses k c → Nth c.body i A
        → D.Number A (number A) N R
        → Gives T (call (shape_number p A) R)
    conts : {k i : ℕ} {c : Clause} {A : Term} {N R : D.Mark}
        → Reached T k i N → Nth p.clauses k c → Nth c.body i A
        → D.Keep (Listed c i) N R
        → Gives T (cont (suc k) (suc i) R)
    -- "3. With m = 0 in rule 1, or i = m in rule 2, marks on H result. For *every* call row whose shape unifies with H, H passes its marks to that shape, which keeps the call's own marks. That gives a solution row."
    solves : {k s : ℕ} {c : Clause} {S : Term} {N C R : D.Mark}
        → Nth p.clauses k c → Reached T k (length c.body) N
        → Nth (shapes p) s S → T (call s C) → D.Pass c.head N S C R
        → Gives T (solution s R)
