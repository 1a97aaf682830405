-- A round over all clauses, one after the other; one that no new row concerns is passed by.
use Prim.Native.Nat.{ℕ, ◌+◌, ◌≤◌, ◌<◌}
use native.Mathlib.Omega.{arith}
use mathlib.Core.Path.{sym, subst}
use mathlib.Core.Logic.{inl}
use mathlib.Core.List.{List}
use lib.ListN.{length}
use Rattle.terms.specs.Mask.{Has}
use Rattle.marks.specs.Modes.{modes}
use Rattle.program.specs.Program.{Nth, Clause, Program}
use Rattle.program.proofs.Nths.{below_nth}
use Rattle.rows.specs.Rows.{keys_of}
use Rattle.table.specs.Rules.{Row}
use Rattle.table.specs.Added.{Below}
use Rattle.table.specs.NewRows.{New, NewIn, NewGives}
use Rattle.table.specs.RoundKeys.{Keyed}
use Rattle.table.proofs.Looking.{by_clauses}
use Rattle.program.proofs.FoundLaws.{sound_same}
use Rattle.steps.specs.Steps.{Given, RowsIn, Writable, Grew, Stepped}
use Rattle.steps.specs.Situation.{Situation, HeadAsked}
use Rattle.concerns.specs.Active.{Concerns}
use Rattle.rounds.specs.Rounds.{LookAsked}
use Rattle.steps.proofs.Stepping.{keys_stay, grew_none, stepped_then, stepped_must}
use Rattle.clauses.proofs.MiddlePlaces.{below_one_more}
use Rattle.ends.proofs.ClauseRows.{stands_on}

-- words say one program, so that what is asked for it holds for every situation
pub asked_every : {words dir table heads : List ℕ} {since rows k concerns : ℕ} → LookAsked words dir table heads since rows k concerns
    → (w : HeadAsked words dir table heads since rows k) → (row : Row ℕ)
    → New modes w.situation.p (RowsIn w.situation.p (keys_of table since)) (RowsIn w.situation.p (keys_of table rows)) row → Concerns w.situation.p k row → Has concerns k
asked_every {table = table} {since = since} {rows = rows} {k = k} {concerns = concerns} a w =
    subst (λ (p : Program). (row : Row ℕ) → New modes p (RowsIn p (keys_of table since)) (RowsIn p (keys_of table rows)) row → Concerns p k row → Has concerns k)
    (sound_same _ a.asked.situation.setting.accepted w.situation.setting.accepted) a.every

-- all clauses, one after the other
module _ (words dir heads table₀ buckets₀ : List ℕ) (since rows round room : ℕ) (w : Situation words dir table₀ heads since rows) where
  abbrev Looked : ℕ → ℕ → Type 0
  Looked k = Keyed w.p (NewIn modes w.p (RowsIn w.p (keys_of table₀ since)) (RowsIn w.p (keys_of table₀ rows)) k)

  pub clauses_begin : Writable table₀ buckets₀ rows room → Grew (Given w.p (keys_of table₀ rows)) round room rows table₀ buckets₀ (Below Looked 0) rows table₀ buckets₀
  clauses_begin writable = grew_none (Given w.p (keys_of table₀ rows)) round room rows table₀ buckets₀ _ writable (λ key (i, b, h). absurd (omega arith))

  module _ (k n' : ℕ) (table buckets : List ℕ) (b : k < length w.p.clauses)
      (g : Grew (Given w.p (keys_of table₀ rows)) round room rows table₀ buckets₀ (Below Looked k) n' table buckets) where
    pub clause_there : (c : Clause) × Nth w.p.clauses k c
    clause_there = below_nth w.p.clauses k b

    abbrev pub clause_asked : HeadAsked words dir table heads since rows k
    clause_asked =
        stands_on words dir heads table₀ buckets₀ since rows round room rows (omega arith) k
        (record { situation = w; clause = record { c = clause_there.0; nth_clause = clause_there.1 } }) (Below Looked k) n' table buckets g

    pub clauses_next : (n'' : ℕ) (table' buckets' : List ℕ)
        → ((v : HeadAsked words dir table heads since rows k)
        → Stepped (Given v.situation.p (keys_of table rows)) round room n' table buckets
        (Keyed v.situation.p (NewIn modes v.situation.p (RowsIn v.situation.p (keys_of table since)) (RowsIn v.situation.p (keys_of table rows)) k)) n'' table' buckets')
        → Stepped (Given w.p (keys_of table₀ rows)) round room rows table₀ buckets₀ (Below Looked (k + 1)) n'' table' buckets'
    clauses_next n'' table' buckets' step =
        let e = keys_stay table₀ table rows rows (omega arith) g.same_rows in
        let f = keys_stay table₀ table rows since w.chains.new g.same_rows in
        stepped_must (Given w.p (keys_of table₀ rows)) round room rows n'' table₀ buckets₀ table' buckets' _ _
        (λ key. below_one_more Looked k (k + 1) key (omega arith))
        (stepped_then (Given w.p (keys_of table₀ rows)) round room rows n' n'' table₀ buckets₀ table buckets table' buckets' _ _ g
        (rw (e, f) at (step clause_asked)))

    -- clause k, where the new rows that concern it set its bit
    pub look_asked : (concerns : ℕ)
        → ((row : Row ℕ) → New modes w.p (RowsIn w.p (keys_of table₀ since)) (RowsIn w.p (keys_of table₀ rows)) row → Concerns w.p k row → Has concerns k)
        → LookAsked words dir table heads since rows k concerns
    look_asked concerns every =
        let e = keys_stay table₀ table rows rows (omega arith) g.same_rows in
        let f = keys_stay table₀ table rows since w.chains.new g.same_rows in
        record {
          asked = clause_asked;
          every = λ row new.
              every row (subst (λ (ks : List ℕ). RowsIn w.p ks row) e new.0, λ o. new.1 (subst (λ (ks : List ℕ). RowsIn w.p ks row) (sym f) o));
        }

  pub clauses_end : (k n' : ℕ) (table buckets : List ℕ) → length w.p.clauses ≤ k
      → Grew (Given w.p (keys_of table₀ rows)) round room rows table₀ buckets₀ (Below Looked k) n' table buckets
      → Stepped (Given w.p (keys_of table₀ rows)) round room rows table₀ buckets₀ (Keyed w.p (NewGives modes w.p (RowsIn w.p (keys_of table₀ since)) (RowsIn w.p (keys_of table₀ rows)))) n' table buckets
  clauses_end k n' table buckets b g =
      stepped_must (Given w.p (keys_of table₀ rows)) round room rows n' table₀ buckets₀ table buckets _ _
      (λ key h. let (i, d, s) = (by_clauses w.p (RowsIn w.p (keys_of table₀ since)) (RowsIn w.p (keys_of table₀ rows)) key).1 h in (i, omega arith, s))
      (inl g)
