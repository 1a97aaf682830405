-- The middle places of a clause, one after the other: past each, the rows for the next body atom are there.
use Prim.Native.Nat.{ℕ, suc, ◌+◌, ◌-◌, ◌≤◌, ◌<◌}
use native.Mathlib.Omega.{arith}
use native.Mathlib.Decide.{ℕ_discrete}
use mathlib.Core.Path.{◌≡◌, subst}
use mathlib.Core.Logic.{◌⊎◌, inl, inr}
use mathlib.Core.List.{List}
use lib.ListN.{length}
use Rattle.marks.specs.Modes.{modes}
use Rattle.terms.specs.Term.{Term}
use Rattle.program.specs.Program.{Nth, Program}
use Rattle.program.proofs.Nths.{below_nth}
use Rattle.rows.specs.Rows.{keys_of}
use Rattle.table.specs.Keys.{body_index}
use Rattle.table.specs.Added.{Below}
use Rattle.table.specs.NewRows.{NewGoesOn}
use Rattle.table.specs.RoundKeys.{Keyed}
use Rattle.steps.specs.Steps.{Given, RowsIn, Writable, Grew, Stepped}
use Rattle.steps.specs.Situation.{Situation, BodyOf, MiddleAsked}
use Rattle.clauses.specs.Clauses.{MiddlesAsked, PastPlaces}
use Rattle.steps.proofs.Stepping.{keys_stay, grew_none, stepped_then, stepped_must}
use Rattle.steps.proofs.SlotRows.{chains_stay}

-- one step of a loop more
pub below_one_more : (S : ℕ → ℕ → Type 0) (m m' key : ℕ) → m' ≡ suc m → Below S m' key → Below S m key ⊎ S m key
below_one_more S m m' key e (i, l, h) = at (ℕ_discrete i m)
  where
    at : Dec (i ≡ m) → Below S m key ⊎ S m key
    at (yes q) = inr (subst (λ (j : ℕ). S j key) q h)
    at (no q) = inl (i, omega arith, h)

module _ (words dir heads table₀ buckets₀ : List ℕ) (since rows first last round room n : ℕ) (l : rows ≤ n)
    (w : MiddlesAsked words dir table₀ heads since rows first last) where
  abbrev p : Program
  p = w.situation.p

  -- body atom j of the program is one of the clause's, and one stands behind it
  middle_within : (j : ℕ) → first ≤ j → j < last → suc (j - first) < length w.clause.c.body
  middle_within j a b = omega (arith, w.all_but_one, w.last_is)

  middle_there : (j : ℕ) → first ≤ j → j < last → (A : Term) × Nth w.clause.c.body (j - first) A
  middle_there j a b = below_nth w.clause.c.body (j - first) (omega (arith, middle_within j a b))

  middle_is : (j : ℕ) → first ≤ j → j ≡ body_index p w.k (j - first)
  middle_is j a = omega (arith, w.first_is)

  abbrev middle_body : (j : ℕ) → first ≤ j → j < last → BodyOf p j
  middle_body j a b =
      record {
        k = w.k;
        i = j - first;
        c = w.clause.c;
        A = (middle_there j a b).0;
        nth_clause = w.clause.nth_clause;
        nth_atom = (middle_there j a b).1;
        is = middle_is j a;
      }

  module _ (n' : ℕ) (table buckets : List ℕ) (j : ℕ) (a : first ≤ j) (b : j < last)
      (g : Grew (Given p (keys_of table₀ rows)) round room n table₀ buckets₀ (PastPlaces p (keys_of table₀ since) (keys_of table₀ rows) w.k (j - first)) n' table buckets) where
    abbrev stands : Situation words dir table heads since rows
    stands =
        record {
          p = p;
          setting = w.situation.setting;
          chains = chains_stay p table₀ heads since rows w.situation.chains table n l g.same_rows g.same_length;
        }

    pub middle_asked : MiddleAsked words dir table heads since rows j
    middle_asked =
        let (A, hA) = below_nth w.clause.c.body (suc (j - first)) (middle_within j a b) in
        record { situation = stands; body = middle_body j a b; next = A; nth_next = hA }

    pub middle_next : (n'' : ℕ) (table' buckets' : List ℕ)
        → ((s : Situation words dir table heads since rows) (d : BodyOf s.p j)
        → Stepped (Given s.p (keys_of table rows)) round room n' table buckets
        (Keyed s.p (NewGoesOn modes s.p (RowsIn s.p (keys_of table since)) (RowsIn s.p (keys_of table rows)) d.k (suc d.i))) n'' table' buckets')
        → Stepped (Given p (keys_of table₀ rows)) round room n table₀ buckets₀ (PastPlaces p (keys_of table₀ since) (keys_of table₀ rows) w.k (j + 1 - first)) n'' table' buckets'
    middle_next n'' table' buckets' step =
        let e = keys_stay table₀ table n rows l g.same_rows in
        let f = keys_stay table₀ table n since (omega (arith, w.situation.chains.new)) g.same_rows in
        stepped_must (Given p (keys_of table₀ rows)) round room n n'' table₀ buckets₀ table' buckets' _ _
        (λ key. below_one_more (λ i. Keyed p (NewGoesOn modes p (RowsIn p (keys_of table₀ since)) (RowsIn p (keys_of table₀ rows)) w.k (suc i))) (j - first) (j + 1 - first) key (omega arith))
        (stepped_then (Given p (keys_of table₀ rows)) round room n n' n'' table₀ buckets₀ table buckets table' buckets' _ _ g
        (rw (e, f) at (step stands (middle_body j a b))))

  pub middles_begin : Writable table₀ buckets₀ n room → Grew (Given p (keys_of table₀ rows)) round room n table₀ buckets₀ (PastPlaces p (keys_of table₀ since) (keys_of table₀ rows) w.k (first - first)) n table₀ buckets₀
  middles_begin writable = grew_none (Given p (keys_of table₀ rows)) round room n table₀ buckets₀ _ writable (λ key (i, b, h). absurd (omega arith))

  pub middles_end : (n' : ℕ) (table buckets : List ℕ) (j : ℕ) → first ≤ j → j ≤ last → last ≤ j
      → Grew (Given p (keys_of table₀ rows)) round room n table₀ buckets₀ (PastPlaces p (keys_of table₀ since) (keys_of table₀ rows) w.k (j - first)) n' table buckets
      → Stepped (Given p (keys_of table₀ rows)) round room n table₀ buckets₀ (PastPlaces p (keys_of table₀ since) (keys_of table₀ rows) w.k w.middles) n' table buckets
  middles_end n' table buckets j a b d g =
      let e : j - first ≡ w.middles = omega (arith, w.last_is) in
      inl (subst (λ (m : ℕ). Grew (Given p (keys_of table₀ rows)) round room n table₀ buckets₀ (PastPlaces p (keys_of table₀ since) (keys_of table₀ rows) w.k m) n' table buckets) e g)
