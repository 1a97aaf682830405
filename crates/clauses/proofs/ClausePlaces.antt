-- A clause in a round: the rows for its body atoms, place by place, and then those that it ends in.
use Prim.Native.Nat.{ℕ, zero, suc, ◌+◌, ◌-◌, ◌≤◌, ◌<◌}
use native.Mathlib.Omega.{arith}
use mathlib.Core.Path.{◌≡◌, sym, ◌∙◌}
use mathlib.Core.Logic.{◌⊎◌, inl, inr, ⊎_elim}
use mathlib.Core.List.{List}
use lib.ListN.{length, get_or}
use Rattle.marks.specs.Modes.{modes}
use Rattle.program.specs.Program.{Program}
use Rattle.directory.specs.Layout.{clause_first}
use Rattle.rows.specs.Rows.{keys_of}
use Rattle.table.specs.Added.{Below}
use Rattle.table.specs.NewRows.{NewGoesOn, NewIn}
use Rattle.table.specs.RoundKeys.{Keyed}
use Rattle.table.proofs.Looking.{by_places}
use Rattle.steps.specs.Steps.{Given, RowsIn, Writable, Grew, Stepped}
use Rattle.steps.specs.Situation.{HeadAsked}
use Rattle.steps.proofs.Stepping.{grew_none, stepped_must}
use Rattle.solving.proofs.SolveSets.{stepped_on}
use Rattle.ends.specs.Ends.{WithHead}
use Rattle.ends.proofs.ClauseRows.{first_index, end_after, last_suc}
use Rattle.clauses.specs.Clauses.{MiddlesAsked, PastPlaces}

pub none_over : {n room : ℕ} → room < n → n ≤ room → ⊥
none_over over l = omega arith

module _ (words dir table heads : List ℕ) (since rows k : ℕ) (w : HeadAsked words dir table heads since rows k)
    (start end : ℕ) (is-start : start ≡ get_or dir (clause_first + k) 0) (is-end : end ≡ get_or dir (clause_first + k + 1) 0) (some : 0 < length w.clause.c.body) where
  abbrev middles_asked : MiddlesAsked words dir table heads since rows start (end - 1)
  middles_asked =
      record {
        situation = w.situation;
        k = k;
        clause = w.clause;
        middles = length w.clause.c.body - 1;
        all_but_one = sym (last_suc words dir table heads since rows k w start end is-start is-end some);
        first_is = is-start ∙ first_index words dir table heads since rows k w;
        last_is = omega (arith, end_after words dir table heads since rows k w start end is-start is-end);
      }

-- a clause whose run of body atoms is not empty has one
abbrev pub places_asked : (words dir table heads : List ℕ) (since rows k : ℕ) (w : HeadAsked words dir table heads since rows k) (start end : ℕ) → start ≡ get_or dir (clause_first + k) 0
    → end ≡ get_or dir (clause_first + k + 1) 0 → start < end → MiddlesAsked words dir table heads since rows start (end - 1)
places_asked words dir table heads since rows k w start end is-start is-end l =
    middles_asked words dir table heads since rows k w start end is-start is-end (omega (arith, end_after words dir table heads since rows k w start end is-start is-end))

module _ (words dir heads table₀ buckets₀ : List ℕ) (since rows round room n : ℕ) (l : rows ≤ n) (k : ℕ) (w : HeadAsked words dir table₀ heads since rows k) where
  abbrev q : Program
  q = w.situation.p

  abbrev Middles : ℕ → Type 0
  Middles = PastPlaces q (keys_of table₀ since) (keys_of table₀ rows) k (length w.clause.c.body - 1)

  -- the rows for the body atoms behind the first are there
  abbrev pub Past : ℕ → List ℕ → List ℕ → Type 0
  Past n' table buckets = Grew (Given q (keys_of table₀ rows)) round room n table₀ buckets₀ Middles n' table buckets

  pub no_places_law : length w.clause.c.body ≡ 0 → Writable table₀ buckets₀ n room → Past n table₀ buckets₀
  no_places_law e writable = grew_none (Given q (keys_of table₀ rows)) round room n table₀ buckets₀ _ writable (λ key (i, b, h). absurd (omega arith))

  -- and then what new call rows open, and what the clause ends in
  pub clause_ends : (n' : ℕ) (table buckets : List ℕ) (g : Past n' table buckets) (n'' : ℕ) (table' buckets' : List ℕ)
      → Stepped (Given q (keys_of table rows)) round room n' table buckets (WithHead q (keys_of table since) (keys_of table rows) k) n'' table' buckets'
      → Stepped (Given q (keys_of table₀ rows)) round room n table₀ buckets₀ (Keyed q (NewIn modes q (RowsIn q (keys_of table₀ since)) (RowsIn q (keys_of table₀ rows)) k)) n'' table' buckets'
  clause_ends n' table buckets g n'' table' buckets' step =
      stepped_must (Given q (keys_of table₀ rows)) round room n n'' table₀ buckets₀ table' buckets' _ _
      (λ key h. ⊎_elim split (λ e. inr (inr e)) ((by_places q (RowsIn q (keys_of table₀ since)) (RowsIn q (keys_of table₀ rows)) w.clause.nth_clause key).1 h))
      (stepped_on q since rows round room n n' n'' table₀ buckets₀ table buckets table' buckets' Middles (λ ks₀ ks. WithHead q ks₀ ks k) w.situation.chains.new l g step)
    where
      split : {key : ℕ} → Below (λ i. Keyed q (NewGoesOn modes q (RowsIn q (keys_of table₀ since)) (RowsIn q (keys_of table₀ rows)) k i)) (length w.clause.c.body) key
          → Middles key ⊎ WithHead q (keys_of table₀ since) (keys_of table₀ rows) k key
      split (zero, d, h) = inr (inl h)
      split (suc i, d, h) = inl (i, omega arith, h)
