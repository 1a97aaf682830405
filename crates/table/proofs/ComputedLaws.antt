-- What is computed is what the rules give, so that the computed rounds are the rounds (`ComputedRounds`).
use Prim.Native.Nat.{ℕ, suc}
use native.Mathlib.Decide.{ℕ_discrete}
use mathlib.Core.Path.{◌≡◌, refl}
use mathlib.Core.Logic.{◌⊎◌, inl, inr, ◌↔◌}
use mathlib.Core.List.Memᴰ
use mathlib.Core.List.{List, [], ◌++◌, map, Memᴰ}
use lib.ListN.{length}
use Rattle.terms.specs.Term.{Term}
use Rattle.marks.specs.Domain.{Domain}
use Rattle.program.specs.Program.{Nth, Clause, Program}
use Rattle.program.specs.Shapes.{shapes, shape_number, number, Listed}
use Rattle.program.proofs.ListLaws.{listed_decided}
use Rattle.table.specs.Rules.{Row, call, cont, solution, Row-discrete, Reached, first, next, Gives, calls, conts, solves}
use Rattle.table.specs.Rounds.{At, Least}
use Rattle.table.proofs.Lists.{each, each_has, has_each, has_map, at, at_has, has_at, places, places_has}
use Rattle.table.proofs.Computed.{Lists, on_call, on_cont, on_solution, Arrival, firsts, nexts, arrivals, goes, ends, leads, given, rows_at}
use Rattle.table.proofs.RuleLaws.{gives_finitary}
use Rattle.table.proofs.ComputedRounds.{decided_in, computed_least_of}

module _ {Mark B : Type 0} (rows : List (Row Mark)) where
  pub has_on_call : (f : ℕ → Mark → List B) {b : B} → Memᴰ b (each rows (on_call f)) → (s : ℕ) × (M : Mark) × Memᴰ (call s M) rows × Memᴰ b (f s M)
  has_on_call f {b} m = let (row, h, m') = has_each rows (on_call f) m in split row h m'
    where
      split : (row : Row Mark) → Memᴰ row rows → Memᴰ b (on_call f row) → (s : ℕ) × (M : Mark) × Memᴰ (call s M) rows × Memᴰ b (f s M)
      split (cont _ _ _) h m' = elim m' [ ]
      split (solution _ _) h m' = elim m' [ ]
      split (call s M) h m' = (s, M, h, m')

  pub has_on_solution : (f : ℕ → Mark → List B) {b : B} → Memᴰ b (each rows (on_solution f)) → (s : ℕ) × (M : Mark) × Memᴰ (solution s M) rows × Memᴰ b (f s M)
  has_on_solution f {b} m = let (row, h, m') = has_each rows (on_solution f) m in split row h m'
    where
      split : (row : Row Mark) → Memᴰ row rows → Memᴰ b (on_solution f row) → (s : ℕ) × (M : Mark) × Memᴰ (solution s M) rows × Memᴰ b (f s M)
      split (call _ _) h m' = elim m' [ ]
      split (cont _ _ _) h m' = elim m' [ ]
      split (solution s M) h m' = (s, M, h, m')

  pub has_on_cont : (f : ℕ → ℕ → Mark → List B) {b : B} → Memᴰ b (each rows (on_cont f))
      → (k : ℕ) × (i : ℕ) × (M : Mark) × Memᴰ (cont (suc k) (suc i) M) rows × Memᴰ b (f k i M)
  has_on_cont f {b} m = let (row, h, m') = has_each rows (on_cont f) m in split row h m'
    where
      split : (row : Row Mark) → Memᴰ row rows → Memᴰ b (on_cont f row)
          → (k : ℕ) × (i : ℕ) × (M : Mark) × Memᴰ (cont (suc k) (suc i) M) rows × Memᴰ b (f k i M)
      split (call _ _) h m' = elim m' [ ]
      split (cont (suc k) Prim.Native.Nat.zero M) h m' = elim m' [ ]
      split (cont Prim.Native.Nat.zero _ M) h m' = elim m' [ ]
      split (solution _ _) h m' = elim m' [ ]
      split (cont (suc k) (suc i) M) h m' = (k, i, M, h, m')

module _ (D : Domain) (lists : Lists D) (p : Program) (rows : List (Row D.Mark)) where
  abbrev Of : Row D.Mark → Type 0
  Of row = Memᴰ row rows

  pub firsts_reached : (k : ℕ) (a : Arrival D.Mark) → Memᴰ a (firsts D lists p rows k) → Reached D p Of a.k a.i a.marks
  firsts_reached k a m =
      let (c, hc, m₁) = has_each (at p.clauses k) _ m in
      let (s, M, row, m₂) = has_on_call rows _ m₁ in
      let (S, hs, m₃) = has_each (at (shapes p) s) _ m₂ in
      let (N, hN, e) = has_map _ (lists.passes S M c.head D.none) m₃ in
      rw e (first (has_at p.clauses k hc) (has_at (shapes p) s hs) row ((lists.passes_all S M c.head D.none N).0 hN))

  pub nexts_reached : (a : Arrival D.Mark) → Memᴰ a (nexts D lists p rows) → Reached D p Of a.k a.i a.marks
  nexts_reached a m =
      let (k, i, M, row, m₁) = has_on_cont rows _ m in
      let (c, hc, m₂) = has_each (at p.clauses k) _ m₁ in
      let (A, hA, m₃) = has_each (at c.body i) _ m₂ in
      let (s, L, row', m₄) = has_on_solution rows _ m₃ in
      let (S, hs, m₅) = has_each (at (shapes p) s) _ m₄ in
      let (Q, hQ, m₆) = has_each (lists.passes S L A D.none) _ m₅ in
      let (N, hN, e) = has_map _ (lists.joins M Q) m₆ in
      rw e
      (next {N = N} (has_at p.clauses k hc) (has_at c.body i hA) (has_at (shapes p) s hs) row row' ((lists.passes_all S L A D.none Q).0 hQ)
      ((lists.joins_all M Q N).0 hN))

  pub arrivals_reached : (a : Arrival D.Mark) → Memᴰ a (arrivals D lists p rows) → Reached D p Of a.k a.i a.marks
  arrivals_reached a m = which (Memᴰ.append_cases (each (places p.clauses) (firsts D lists p rows)) m)
    where
      which : Memᴰ a (each (places p.clauses) (firsts D lists p rows)) ⊎ Memᴰ a (nexts D lists p rows) → Reached D p Of a.k a.i a.marks
      which (inl m') = let (k, _, m'') = has_each (places p.clauses) (firsts D lists p rows) m' in firsts_reached k a m''
      which (inr m') = nexts_reached a m'

  pub reached_arrivals : {k i : ℕ} {N : D.Mark} → Reached D p Of k i N → Memᴰ (record { k = k; i = i; marks = N }) (arrivals D lists p rows)
  reached_arrivals (first {k} {s} {c} {S} {M} {N} hc hs row passed) =
      Memᴰ.append_left (nexts D lists p rows)
      (each_has (places p.clauses) (firsts D lists p rows) (places_has hc)
      (each_has (at p.clauses k) _ (at_has hc)
      (each_has rows (on_call _) row
      (each_has (at (shapes p) s) _ (at_has hs)
      (Memᴰ.map _ ((lists.passes_all S M c.head D.none N).1 passed))))))
  reached_arrivals (next {k} {i} {s} {c} {A} {S} {M} {L} {Q} {N} hc hA hs row row' passed joined) =
      Memᴰ.append_right (each (places p.clauses) (firsts D lists p rows))
      (each_has rows (on_cont _) row
      (each_has (at p.clauses k) _ (at_has hc)
      (each_has (at c.body i) _ (at_has hA)
      (each_has rows (on_solution _) row'
      (each_has (at (shapes p) s) _ (at_has hs)
      (each_has (lists.passes S L A D.none) _ ((lists.passes_all S L A D.none Q).1 passed)
      (Memᴰ.map _ ((lists.joins_all M Q N).1 joined))))))))

  pub goes_gives : (k i : ℕ) (N : D.Mark) (c : Clause) (A : Term) (row : Row D.Mark) → Reached D p Of k i N → Nth p.clauses k c → Nth c.body i A
      → Memᴰ row (goes D lists p k i N c A) → Gives D p Of row
  goes_gives k i N c A row reached hc hA m = which (Memᴰ.append_cases (map (call (shape_number p A)) (lists.numbers A (number A) N)) m)
    where
      which : Memᴰ row (map (call (shape_number p A)) (lists.numbers A (number A) N))
          ⊎ Memᴰ row (map (cont (suc k) (suc i)) (lists.keeps (Listed c i) (listed_decided c i) N)) → Gives D p Of row
      which (inl m') =
          let (R, hR, e) = has_map (call (shape_number p A)) (lists.numbers A (number A) N) m' in
          rw e (calls reached hc hA ((lists.numbers_all A (number A) N R).0 hR))
      which (inr m') =
          let (R, hR, e) = has_map (cont (suc k) (suc i)) (lists.keeps (Listed c i) (listed_decided c i) N) m' in
          rw e (conts reached hc hA ((lists.keeps_all (Listed c i) (listed_decided c i) N R).0 hR))

  pub ends_gives : (k : ℕ) (N : D.Mark) (c : Clause) (row : Row D.Mark) → Nth p.clauses k c → Reached D p Of k (length c.body) N
      → Memᴰ row (ends D lists p rows N c) → Gives D p Of row
  ends_gives k N c row hc reached m =
      let (s, C, r, m₁) = has_on_call rows _ m in
      let (S, hs, m₂) = has_each (at (shapes p) s) _ m₁ in
      let (R, hR, e) = has_map (solution s) (lists.passes c.head N S C) m₂ in
      rw e (solves hc reached (has_at (shapes p) s hs) r ((lists.passes_all c.head N S C R).0 hR))

  -- what an arrival leads to in its clause
  abbrev pub leads_in : Arrival D.Mark → Clause → List (Row D.Mark)
  leads_in a c =
      each (at c.body a.i) (goes D lists p a.k a.i a.marks c) ++ elim (ℕ_discrete a.i (length c.body)) [ yes _ ↦ ends D lists p rows a.marks c | no _ ↦ [] ]

  pub leads_gives : (a : Arrival D.Mark) (row : Row D.Mark) → Reached D p Of a.k a.i a.marks → Memᴰ row (leads D lists p rows a) → Gives D p Of row
  leads_gives a row reached m =
      let (c, hc, m₁) = has_each (at p.clauses a.k) (leads_in a) m in
      which c (has_at p.clauses a.k hc) (Memᴰ.append_cases (each (at c.body a.i) (goes D lists p a.k a.i a.marks c)) m₁)
    where
      ended : (c : Clause) → Nth p.clauses a.k c → (d : Dec (a.i ≡ length c.body))
          → Memᴰ row (elim d as (λ _. List (Row D.Mark)) [ yes _ ↦ ends D lists p rows a.marks c | no _ ↦ [] ]) → Gives D p Of row
      ended c hc (no _) m' = elim m' [ ]
      ended c hc (yes e) m' = ends_gives a.k a.marks c row hc (rw e at reached) m'

      which : (c : Clause) → Nth p.clauses a.k c
          → Memᴰ row (each (at c.body a.i) (goes D lists p a.k a.i a.marks c))
          ⊎ Memᴰ row (elim (ℕ_discrete a.i (length c.body)) as (λ _. List (Row D.Mark)) [ yes _ ↦ ends D lists p rows a.marks c | no _ ↦ [] ])
          → Gives D p Of row
      which c hc (inl m') =
          let (A, hA, m₂) = has_each (at c.body a.i) (goes D lists p a.k a.i a.marks c) m' in
          goes_gives a.k a.i a.marks c A row reached hc (has_at c.body a.i hA) m₂
      which c hc (inr m') = ended c hc (ℕ_discrete a.i (length c.body)) m'

  -- what is computed is given by a rule
  pub given_gives : (row : Row D.Mark) → Memᴰ row (given D lists p rows) → Gives D p Of row
  given_gives row m =
      let (a, ha, m') = has_each (arrivals D lists p rows) (leads D lists p rows) m in
      leads_gives a row (arrivals_reached a ha) m'

  pub arrival_given : (k i : ℕ) (N : D.Mark) (c : Clause) (row : Row D.Mark) → Reached D p Of k i N → Nth p.clauses k c
      → Memᴰ row (leads_in (record { k = k; i = i; marks = N }) c) → Memᴰ row (given D lists p rows)
  arrival_given k i N c row reached hc m =
      each_has (arrivals D lists p rows) (leads D lists p rows) (reached_arrivals reached)
      (each_has (at p.clauses k) (leads_in (record { k = k; i = i; marks = N })) (at_has hc) m)

  pub goes_given : (k i : ℕ) (N : D.Mark) (c : Clause) (A : Term) (row : Row D.Mark) → Reached D p Of k i N → Nth p.clauses k c → Nth c.body i A
      → Memᴰ row (goes D lists p k i N c A) → Memᴰ row (given D lists p rows)
  goes_given k i N c A row reached hc hA m =
      arrival_given k i N c row reached hc (Memᴰ.append_left _ (each_has (at c.body i) (goes D lists p k i N c) (at_has hA) m))

  -- what a rule gives is computed
  pub gives_given : (row : Row D.Mark) → Gives D p Of row → Memᴰ row (given D lists p rows)
  gives_given _ (calls {k} {i} {c} {A} {N} {R} reached hc hA numbered) =
      goes_given k i N c A _ reached hc hA
      (Memᴰ.append_left (map (cont (suc k) (suc i)) (lists.keeps (Listed c i) (listed_decided c i) N))
      (Memᴰ.map (call (shape_number p A)) ((lists.numbers_all A (number A) N R).1 numbered)))
  gives_given _ (conts {k} {i} {c} {A} {N} {R} reached hc hA kept) =
      goes_given k i N c A _ reached hc hA
      (Memᴰ.append_right (map (call (shape_number p A)) (lists.numbers A (number A) N))
      (Memᴰ.map (cont (suc k) (suc i)) ((lists.keeps_all (Listed c i) (listed_decided c i) N R).1 kept)))
  gives_given _ (solves {k} {s} {c} {S} {N} {C} {R} hc reached hs r passed) =
      arrival_given k (length c.body) N c (solution s R) reached hc
      (Memᴰ.append_right (each (at c.body (length c.body)) (goes D lists p k (length c.body) N c)) (ended (ℕ_discrete (length c.body) (length c.body))))
    where
      ended : (d : Dec (length c.body ≡ length c.body))
          → Memᴰ (solution s R) (elim d as (λ _. List (Row D.Mark)) [ yes _ ↦ ends D lists p rows N c | no _ ↦ [] ])
      ended (yes _) =
          each_has rows (on_call _) r
          (each_has (at (shapes p) s) _ (at_has hs) (Memᴰ.map (solution s) ((lists.passes_all c.head N S C R).1 passed)))
      ended (no ne) = absurd (ne refl)

pub given_all : (D : Domain) (lists : Lists D) (p : Program) (rows : List (Row D.Mark)) (row : Row D.Mark)
    → Memᴰ row (given D lists p rows) ↔ Gives D p (λ r. Memᴰ r rows) row
given_all D lists p rows row = (given_gives D lists p rows row, gives_given D lists p rows row)

module _ (D : Domain) (lists : Lists D) (p : Program) (goal : D.Mark) where
  -- it is decided whether a row is in a round
  pub at_decided : (k : ℕ) (row : Row D.Mark) → Dec (At D p goal k row)
  at_decided = decided_in (Row-discrete ℕ_discrete lists.same) (call 0 goal) (given D lists p) (Gives D p) (gives_finitary D p) (given_all D lists p)

  -- where a round computes to the one before, its rows are the least set
  pub computed_least : (k : ℕ) → rows_at D lists p goal (suc k) ≡ rows_at D lists p goal k → (row : Row D.Mark) → Least D p goal row ↔ Memᴰ row (rows_at D lists p goal k)
  computed_least = computed_least_of (Row-discrete ℕ_discrete lists.same) (call 0 goal) (given D lists p) (Gives D p) (gives_finitary D p) (given_all D lists p)
