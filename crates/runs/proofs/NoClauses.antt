-- "A predicate without clauses never has a solution": what is solved in a run is an instance of a clause's head.
use Prim.Native.Nat.{ℕ}
use mathlib.Core.Path.{◌≡◌, sym, ap, ◌∙◌}
use mathlib.Core.List.{List, [], ◌∷◌, ◌++◌}
use Rattle.terms.specs.Term.{Term, Terms, app, Subst, sub, comp}
use Rattle.terms.proofs.Substs.{sub_comp}
use Rattle.marks.specs.Domain.{Domain}
use Rattle.program.specs.Program.{Nth, Clause, Program}
use Rattle.table.proofs.NoClauses.{WithoutClauses, head_differs}
use Rattle.runs.specs.Run.{Item, atom, end, apply, written, renamed, Step, put, leave, Run, start, step, Solved}

module _ (p : Program) where
  -- the atom is an instance of a clause's head
  pub record OfHead (A : Term) : Type 0 where
    pub k : ℕ
    pub clause : Clause
    pub is_clause : Nth p.clauses k clause
    pub β : Subst
    pub reads : sub clause.head β ≡ A

  pub of_head_under : (A : Term) (θ : Subst) → OfHead A → OfHead (sub A θ)
  of_head_under A θ h = record {
    k = h.k;
    clause = h.clause;
    is_clause = h.is_clause;
    β = comp h.β θ;
    reads = sym (sub_comp h.clause.head h.β θ) ∙ ap (λ t. sub t θ) h.reads;
  }

  -- every end mark is of such an atom
  abbrev pub Ends : List Item → Type 0
  Ends [] = Unit {0}
  Ends (atom s A ∷ items) = Ends items
  Ends (end s A ∷ items) = OfHead A × Ends items

  pub ends_under : (items : List Item) (θ : Subst) → Ends items → Ends (apply items θ)
  ends_under [] θ h = tt
  ends_under (atom s A ∷ items) θ h = ends_under items θ h
  ends_under (end s A ∷ items) θ h = (of_head_under A θ h.0, ends_under items θ h.1)

  -- a body brings no end mark, and behind it the atom's own is of the clause's head
  pub ends_put : (body : List Term) (σ θ : Subst) (s : ℕ) (A : Term) (rest : List Item) → OfHead (sub A θ) → Ends rest
      → Ends (apply (written p body σ ++ (end s A ∷ rest)) θ)
  ends_put [] σ θ s A rest h below = (h, ends_under rest θ below)
  ends_put (B ∷ body) σ θ s A rest h below = ends_put body σ θ s A rest h below

  pub step_ends : {items items' : List Item} → Step p items items' → Ends items → Ends items'
  step_ends (put {k} {s} {c} {A} {rest} ρ θ hc fresh finite e) h =
      ends_put c.body (renamed ρ) θ s A rest
      (record { k = k; clause = c; is_clause = hc; β = comp (renamed ρ) θ; reads = sym (sub_comp c.head (renamed ρ) θ) ∙ e })
      h
  step_ends leave h = h.1

  module _ (D : Domain) (goal : D.Mark) where
    pub run_ends : {n : ℕ} {items : List Item} → Run D p goal n items → Ends items
    run_ends (start σ holds) = tt
    run_ends (step r s) = step_ends s (run_ends r)

    pub solved_of_head : (n s : ℕ) (A : Term) → Solved D p goal n s A → OfHead A
    solved_of_head n s A (rest, r) = (run_ends r).0

    pub no_clauses_never_solved : (f : ℕ) → WithoutClauses p f → (n s : ℕ) (ts : Terms) → Solved D p goal n s (app f ts) → ⊥
    no_clauses_never_solved f none n s ts solved =
        let h = solved_of_head n s (app f ts) solved in
        head_differs p f none h.k h.clause h.is_clause h.β ts h.reads
