-- The rounds, computed: the rows of each round as a list, over marks whose results can be listed. `ComputedLaws` shows that these are the rounds.
use Prim.Native.Nat.{ℕ, zero, suc}
use native.Mathlib.Decide.{ℕ_discrete}
use mathlib.Core.List.{List, [], ◌++◌, map, Memᴰ}
use mathlib.Core.Logic.{◌↔◌}
use lib.ListN.{length}
use Rattle.terms.specs.Term.{Term}
use Rattle.marks.specs.Domain.{Domain}
use Rattle.program.specs.Program.{Clause, Program}
use Rattle.program.specs.Shapes.{shapes, shape_number, number, Listed}
use Rattle.program.proofs.ListLaws.{listed_decided}
use Rattle.table.specs.Rules.{Row, call, cont, solution, Row-discrete}
use Rattle.table.proofs.Lists.{each, at, places}
use Rattle.table.proofs.ComputedRounds.{rows_in}

-- a domain of marks whose results can be listed, all of them and no other
pub record Lists (D : Domain) : Type 1 where
  pub same : Discrete D.Mark
  pub passes : Term → D.Mark → Term → D.Mark → List D.Mark
  pub joins : D.Mark → D.Mark → List D.Mark
  pub keeps : (P : ℕ → Type 0) → ((v : ℕ) → Dec (P v)) → D.Mark → List D.Mark
  pub numbers : Term → (ℕ → ℕ) → D.Mark → List D.Mark
  pub passes_all : (A : Term) (M : D.Mark) (B : Term) (N R : D.Mark) → Memᴰ R (passes A M B N) ↔ D.Pass A M B N R
  pub joins_all : (M N R : D.Mark) → Memᴰ R (joins M N) ↔ D.Join M N R
  pub keeps_all : (P : ℕ → Type 0) (decide : (v : ℕ) → Dec (P v)) (M R : D.Mark) → Memᴰ R (keeps P decide M) ↔ D.Keep P M R
  pub numbers_all : (A : Term) (f : ℕ → ℕ) (M R : D.Mark) → Memᴰ R (numbers A f M) ↔ D.Number A f M R

-- what f lists for a row of the kind
abbrev pub on_call : {Mark B : Type 0} → (ℕ → Mark → List B) → Row Mark → List B
on_call f (call s M) = f s M
on_call f (cont a b M) = []
on_call f (solution s M) = []

-- a cont row's clause and place count from 1, and here from 0
abbrev pub on_cont : {Mark B : Type 0} → (ℕ → ℕ → Mark → List B) → Row Mark → List B
on_cont f (call s M) = []
on_cont f (cont (suc k) (suc i) M) = f k i M
on_cont f (cont (suc k) zero M) = []
on_cont f (cont zero b M) = []
on_cont f (solution s M) = []

abbrev pub on_solution : {Mark B : Type 0} → (ℕ → Mark → List B) → Row Mark → List B
on_solution f (call s M) = []
on_solution f (cont a b M) = []
on_solution f (solution s M) = f s M

-- the marks with which the rules come past the first i body atoms of clause k
pub record Arrival (Mark : Type 0) : Type 0 where
  pub k : ℕ
  pub i : ℕ
  pub marks : Mark

module _ (D : Domain) (lists : Lists D) (p : Program) where
  -- rule 1
  abbrev pub firsts : List (Row D.Mark) → ℕ → List (Arrival D.Mark)
  firsts rows k =
      each (at p.clauses k) λ c. each rows (on_call λ s M. each (at (shapes p) s) λ S.
      map (λ N. record { k = k; i = 0; marks = N }) (lists.passes S M c.head D.none))

  -- rule 2
  abbrev pub nexts : List (Row D.Mark) → List (Arrival D.Mark)
  nexts rows =
      each rows (on_cont λ k i M. each (at p.clauses k) λ c. each (at c.body i) λ A.
      each rows (on_solution λ s L. each (at (shapes p) s) λ S.
      each (lists.passes S L A D.none) λ Q. map (λ N. record { k = k; i = suc i; marks = N }) (lists.joins M Q)))

  abbrev pub arrivals : List (Row D.Mark) → List (Arrival D.Mark)
  arrivals rows = each (places p.clauses) (firsts rows) ++ nexts rows

  -- "this gives a call row .. and a cont row"
  abbrev pub goes : ℕ → ℕ → D.Mark → Clause → Term → List (Row D.Mark)
  goes k i N c A =
      map (call (shape_number p A)) (lists.numbers A (number A) N) ++ map (cont (suc k) (suc i)) (lists.keeps (Listed c i) (listed_decided c i) N)

  -- rule 3
  abbrev pub ends : List (Row D.Mark) → D.Mark → Clause → List (Row D.Mark)
  ends rows N c = each rows (on_call λ s C. each (at (shapes p) s) λ S. map (solution s) (lists.passes c.head N S C))

  abbrev pub leads : List (Row D.Mark) → Arrival D.Mark → List (Row D.Mark)
  leads rows a =
      each (at p.clauses a.k) λ c.
      each (at c.body a.i) (goes a.k a.i a.marks c) ++ elim (ℕ_discrete a.i (length c.body)) [ yes _ ↦ ends rows a.marks c | no _ ↦ [] ]

  abbrev pub given : List (Row D.Mark) → List (Row D.Mark)
  given rows = each (arrivals rows) (leads rows)

  -- the rows of round k
  abbrev pub rows_at : D.Mark → ℕ → List (Row D.Mark)
  rows_at goal = rows_in (Row-discrete ℕ_discrete lists.same) (call 0 goal) given
