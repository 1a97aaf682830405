-- A clause in a round: where it stands in the directory, the rows for its body atoms, and then those that it ends in.
use Prim.Native.Nat.{ℕ, zero, suc, ◌+◌, ◌-◌, ◌≤◌, ◌<◌}
use native.Mathlib.Omega.{arith}
use mathlib.Core.Path.{◌≡◌, sym, ap, subst, ◌∙◌}
use mathlib.Core.Bool.{Bool}
use mathlib.Core.List.{List}
use lib.ListN.{length, get_or}
use Rattle.terms.specs.Term.{Term, Occ}
use Rattle.terms.specs.Mask.{Marks}
use Rattle.terms.proofs.Masks.{marks_for}
use Rattle.program.specs.Program.{Nth, Clause, Program}
use Rattle.program.proofs.Nths.{nth_below, below_nth}
use Rattle.directory.specs.Layout.{clause_head, clause_first, clause_vars, dir_words}
use Rattle.directory.specs.Directory.{predicate_of, ClauseAt}
use Rattle.rows.specs.Rows.{keys_of}
use Rattle.table.specs.Keys.{body_index}
use Rattle.steps.specs.Steps.{Given, Grew}
use Rattle.steps.specs.Situation.{Situation, BodyOf, HeadAsked, LastAsked}
use Rattle.steps.specs.Since.{PredicateAsked}
use Rattle.steps.specs.Heads.{HeadMark, Collected, Told}
use Rattle.steps.proofs.Meetings.{setting_within}
use Rattle.steps.proofs.Bodies.{first_body, head_is_atom}
use Rattle.steps.proofs.BodyAtoms.{some_cells, predicate_there}
use Rattle.steps.proofs.SlotRows.{chains_stay}

module _ (words dir table heads : List ℕ) (since rows k : ℕ) (w : HeadAsked words dir table heads since rows k) where
  abbrev p : Program
  p = w.situation.p

  abbrev c : Clause
  c = w.clause.c

  its_clause : ClauseAt words dir c k
  its_clause = w.situation.setting.directory.clause w.clause.nth_clause

  pub clause_few : (k < 64) × (length dir ≡ dir_words)
  clause_few =
      (omega (arith, nth_below w.clause.nth_clause, (setting_within w.situation.setting).clauses_most), w.situation.setting.directory.size)

  pub next_first : get_or dir (clause_first + k + 1) 0 ≡ get_or dir (clause_first + k) 0 + length c.body
  next_first = let e : clause_first + k + 1 ≡ clause_first + suc k = omega arith in rw e its_clause.first_next

  pub vars_few : get_or dir (clause_vars + k) 0 ≤ 16
  vars_few = its_clause.few

  pub vars_head : (v : ℕ) → Occ v c.head → v < get_or dir (clause_vars + k) 0
  vars_head v o = (its_clause.head_variables v).0 o

  -- the head's first word is its predicate
  pub head_there : get_or dir (clause_head + k) 0 < length words
  head_there =
      let a = head_is_atom w.situation.setting w.clause.nth_clause in
      omega (arith, its_clause.stands.fits, some_cells its_clause.stands a.predicate a.arguments a.is)

  pub head_predicate : get_or words (get_or dir (clause_head + k) 0) 0 ≡ predicate_of c.head
  head_predicate =
      let a = head_is_atom w.situation.setting w.clause.nth_clause in
      predicate_there its_clause.stands a.predicate a.arguments a.is ∙ ap predicate_of (sym a.is)

  pub predicate_asked : (q : ℕ) → q ≡ get_or words (get_or dir (clause_head + k) 0) 0 → PredicateAsked dir heads q 0
  predicate_asked q e =
      let a = head_is_atom w.situation.setting w.clause.nth_clause in
      let f : q ≡ a.predicate = e ∙ head_predicate ∙ ap predicate_of a.is in
      record {
        words = words;
        p = p;
        setting = w.situation.setting;
        declared = rw f a.declared;
        slots_there = omega (arith, w.situation.chains.all_heads);
      }

  -- the same from another row on
  abbrev pub asked_since : (since' : ℕ) → since' ≤ rows → HeadAsked words dir table heads since' rows k
  asked_since since' l =
      record {
        situation =
            record {
              p = p;
              setting = w.situation.setting;
              chains =
                  record {
                    by_slot = w.situation.chains.by_slot;
                    all_heads = w.situation.chains.all_heads;
                    new = l;
                    most = w.situation.chains.most;
                    fits = w.situation.chains.fits;
                    masks_below = w.situation.chains.masks_below;
                    distinct = w.situation.chains.distinct;
                    regular = w.situation.chains.regular;
                  };
            };
        clause = w.clause;
      }

  pub first_index : get_or dir (clause_first + k) 0 ≡ body_index p k 0
  first_index = let l = nth_below w.clause.nth_clause in omega (arith, first_body w.situation.setting k (omega arith))

  module _ (start end : ℕ) (is-start : start ≡ get_or dir (clause_first + k) 0) (is-end : end ≡ get_or dir (clause_first + k + 1) 0) where
    pub no_body : start ≡ end → length c.body ≡ 0
    no_body e = omega (arith, next_first)

    pub some_body : (start ≡ end → ⊥) → 0 < length c.body
    some_body n = at (length c.body) (is-end ∙ next_first)
      where
        at : (m : ℕ) → end ≡ get_or dir (clause_first + k) 0 + m → 0 < m
        at zero e = absurd (n (omega arith))
        at (suc m) e = omega arith

    pub end_after : end ≡ start + length c.body
    end_after = omega (arith, next_first)

    module _ (some : 0 < length c.body) where
      last_there : (A : Term) × Nth c.body (length c.body - 1) A
      last_there = below_nth c.body (length c.body - 1) (omega arith)

      last_index : end - 1 ≡ body_index p k (length c.body - 1)
      last_index = omega (arith, end_after, first_index)

      pub last_suc : suc (length c.body - 1) ≡ length c.body
      last_suc = omega arith

      abbrev last_body : BodyOf p (end - 1)
      last_body =
          record {
            k = k;
            i = length c.body - 1;
            c = c;
            A = last_there.0;
            nth_clause = w.clause.nth_clause;
            nth_atom = last_there.1;
            is = last_index;
          }

      pub last_asked : (vars there : ℕ) → vars ≡ get_or dir (clause_vars + k) 0 → Marks (λ v. v < vars) there → LastAsked words dir table heads since rows (end - 1) there
      last_asked vars there e marks =
          record {
            situation = w.situation;
            body = last_body;
            last = sym last_suc;
            head_variables = marks_for there (λ v. (λ l. (its_clause.head_variables v).1 (rw e at l), λ o. rw e ((its_clause.head_variables v).0 o))) marks;
          }

      pub last_marked : (found found' : List ℕ) (r : Bool)
          → ((s : Situation words dir table heads since rows) (b : BodyOf s.p (end - 1)) → Collected (HeadMark s.p table since rows b.k (suc b.i)) found found' × Told (HeadMark s.p table since rows b.k (suc b.i)) r)
          → Collected (HeadMark p table since rows k (length c.body)) found found' × Told (HeadMark p table since rows k (length c.body)) r
      last_marked found found' r h = subst (λ (i : ℕ). Collected (HeadMark p table since rows k i) found found' × Told (HeadMark p table since rows k i) r) last_suc (h w.situation last_body)

-- the clause stands in a table that has grown
module _ (words dir heads table₀ buckets₀ : List ℕ) (since rows round room n : ℕ) (l : rows ≤ n) where
  abbrev pub stands_on : (k : ℕ) (w : HeadAsked words dir table₀ heads since rows k) (Must : ℕ → Type 0) (n' : ℕ) (table buckets : List ℕ)
      → Grew (Given w.situation.p (keys_of table₀ rows)) round room n table₀ buckets₀ Must n' table buckets → HeadAsked words dir table heads since rows k
  stands_on k w Must n' table buckets g =
      record {
        situation =
            record {
              p = w.situation.p;
              setting = w.situation.setting;
              chains = chains_stay w.situation.p table₀ heads since rows w.situation.chains table n l g.same_rows g.same_length;
            };
        clause = w.clause;
      }
