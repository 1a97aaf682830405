-- The rules step by step, for marks in hand: what a call row opens, what a cont and a solution row make, what marks go on to, what they end in.
use Rattle.std.specs.Prelude.{ℕ, suc, length}
use Rattle.terms.specs.Term.{Term}
use Rattle.marks.specs.Domain.{Domain}
use Rattle.program.specs.Program.{Nth, Clause, Program}
use Rattle.program.specs.Shapes.{shapes, shape_number, number, Listed}
use Rattle.table.specs.Rules.{Row, call, cont, solution, Reached}

module _ (D : Domain) (p : Program) where
  -- "1. A call row whose shape unifies with H passes its marks to H (itself with none)": the call row (s, M) gives marks N on the head of clause k
  pub data Opens (k s : ℕ) (M N : D.Mark) : Type 0 where
    opens : {c : Clause} {S : Term} → Nth p.clauses k c → Nth (shapes p) s S → D.Pass S M c.head D.none N → Opens k s M N

  -- "2. A cont row (n, i) and any solution row whose shape unifies with Ai give the cont row's marks together with those that the solution passes to Ai":
  -- the cont row's marks M and the solution row (s, L) give marks N past body atom i of clause k
  pub data Makes (k i : ℕ) (M : D.Mark) (s : ℕ) (L N : D.Mark) : Type 0 where
    makes : {c : Clause} {A S : Term} {Q : D.Mark} → Nth p.clauses k c → Nth c.body i A → Nth (shapes p) s S
        → D.Pass S L A D.none Q → D.Join M Q N → Makes k i M s L N

  -- "a call row for A(i+1) and a cont row (n, i+1)": what marks N before body atom i of clause k go on to
  pub data GoesOn (k i : ℕ) (N : D.Mark) : Row D.Mark → Type 0 where
    goes_call : {c : Clause} {A : Term} {R : D.Mark} → Nth p.clauses k c → Nth c.body i A
        → D.Number A (number A) N R → GoesOn k i N (call (shape_number p A) R)
    goes_cont : {c : Clause} {A : Term} {R : D.Mark} → Nth p.clauses k c → Nth c.body i A
        → D.Keep (Listed c i) N R → GoesOn k i N (cont (suc k) (suc i) R)

  -- "3. .. H passes its marks to that shape, which keeps the call's own marks. That gives a solution row": marks N on the head of clause k, for the call row (s, C)
  pub data EndsIn (k : ℕ) (N : D.Mark) (s : ℕ) (C : D.Mark) : Row D.Mark → Type 0 where
    ends_in : {c : Clause} {S : Term} {R : D.Mark} → Nth p.clauses k c → Nth (shapes p) s S
        → D.Pass c.head N S C R → EndsIn k N s C (solution s R)

  -- "marks on H result": past all body atoms of clause k
  pub data OnHead (T : Row D.Mark → Type 0) (k : ℕ) (N : D.Mark) : Type 0 where
    on_head : {c : Clause} → Nth p.clauses k c → Reached D p T k (length c.body) N → OnHead T k N
