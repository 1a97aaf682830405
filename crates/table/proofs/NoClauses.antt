-- "A predicate without clauses never has a solution": the table has no solution row for it.
use Prim.Native.Nat.{ℕ}
use mathlib.Core.Path.{◌≡◌, refl, sym, ap, ◌∙◌}
use Rattle.terms.specs.Term.{Terms, app, Subst, sub, subs}
use Rattle.marks.specs.Modes.{modes}
use Rattle.program.specs.Program.{Nth, Clause, Program}
use Rattle.program.specs.Shapes.{shapes}
use Rattle.program.proofs.ShapeLaws.{nth_same}
use Rattle.table.specs.Rules.{Row, call, cont, solution, calls, conts, solves}
use Rattle.table.specs.Rounds.{Closed, Least}

-- each clause's head has another predicate
abbrev pub WithoutClauses : Program → ℕ → Type 0
WithoutClauses p f = (k : ℕ) (c : Clause) → Nth p.clauses k c → (g : ℕ) × (ts : Terms) × (c.head ≡ app g ts) × (g ≡ f → ⊥)

-- so no instance of a head is an atom of that predicate
pub head_differs : (p : Program) (f : ℕ) → WithoutClauses p f → (k : ℕ) (c : Clause) → Nth p.clauses k c → (β : Subst) (ts : Terms) → sub c.head β ≡ app f ts → ⊥
head_differs p f none k c h β ts e =
    let (g, us, is, differs) = none k c h in
    differs (same g us (ap (λ t. sub t β) (sym is) ∙ e))
  where
    same : (g : ℕ) (us : Terms) → app g (subs us β) ≡ app f ts → g ≡ f
    same g us q = cc

module _ (p : Program) (f : ℕ) (none : WithoutClauses p f) (s : ℕ) (ts : Terms) (h : Nth (shapes p) s (app f ts)) where
  -- every row but the solutions of the shape
  abbrev Others : Row ℕ → Type 0
  Others (call r M) = Unit {0}
  Others (cont a b M) = Unit {0}
  Others (solution r M) = r ≡ s → ⊥

  pub others_closed : Closed modes p Others
  others_closed _ (calls reached hc hA numbered) = tt
  others_closed _ (conts reached hc hA kept) = tt
  others_closed _ (solves {k = k} {c = c} hc reached hs row passed) = λ e.
      head_differs p f none k c hc passed.α (subs ts passed.β)
      (passed.unifier.unifies ∙ ap (λ t. sub t passed.β) (nth_same (rw e at hs) h))

  pub no_clauses_no_solution : (goal M : ℕ) → Least modes p goal (solution s M) → ⊥
  no_clauses_no_solution goal M least = least Others others_closed tt refl
