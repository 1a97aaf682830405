-- What stands below an atom in progress: the clauses that it waits in, each at its place with a cont row, down to the goal.
use Prim.Native.Nat.{ℕ, suc}
use mathlib.Core.Path.{◌≡◌, sym, ap, ◌∙◌}
use mathlib.Core.List.{List, [], ◌∷◌, ◌++◌}
use Rattle.terms.specs.Term.{Term, Subst, sub, comp}
use Rattle.terms.proofs.Substs.{sub_comp}
use Rattle.marks.specs.Domain.{Domain, Sound}
use Rattle.program.specs.Program.{Nth, Clause, Program}
use Rattle.program.specs.Shapes.{shape_number}
use Rattle.table.specs.Rules.{Row, cont}
use Rattle.runs.specs.Run.{Item, end, apply, written}
use Rattle.runs.specs.Cover.{Covered, ByCall}
use Rattle.runs.proofs.Items.{From, apply_append, apply_written}

module _ (D : Domain) (p : Program) (T : Row D.Mark → Type 0) where
  -- the clause that an atom waits in: it stands at place i of clause k, whose variables read β, and the head is the call G of shape s
  pub record Waits (A : Term) (r : ℕ) (G : Term) (s : ℕ) (ahead : List Item) : Type 0 where
    pub k : ℕ
    pub i : ℕ
    pub clause : Clause
    pub written_as : Term
    pub after : List Term
    pub β : Subst
    pub marks : D.Mark
    pub is_clause : Nth p.clauses k clause
    pub at_place : From clause.body i (written_as ∷ after)
    pub row : T (cont (suc k) (suc i) marks)
    pub holds : D.Holds marks β
    pub reads : A ≡ sub written_as β
    pub numbered : r ≡ shape_number p written_as
    pub head_reads : sub clause.head β ≡ G
    pub covered : ByCall D p T s G
    pub ahead_reads : ahead ≡ written p after β

  -- A, written in shape r, is in progress, and the items are all that stands behind it
  pub data Frames : Term → ℕ → List Item → Type 0 where
    bottom : {A : Term} {r : ℕ} → Frames A r []
    frame : {A G : Term} {r s : ℕ} {ahead items rest : List Item} → Waits A r G s ahead → items ≡ ahead ++ (end s G ∷ rest) → Frames G s rest → Frames A r items

  module _ (sound : Sound D) where
    -- a covered atom stays covered under a further substitution
    pub covered_under : (s : ℕ) (M : D.Mark) (A : Term) (θ : Subst) → Covered D p s M A → Covered D p s M (sub A θ)
    covered_under s M A θ c = record {
      shape = c.shape;
      numbered = c.numbered;
      terms = comp c.terms θ;
      reads = ap (λ t. sub t θ) c.reads ∙ sub_comp c.shape c.terms θ;
      holds = sound.holds_under M c.terms θ c.holds;
    }

    pub waits_under : (A G : Term) (r s : ℕ) (ahead : List Item) (θ : Subst) → Waits A r G s ahead → Waits (sub A θ) r (sub G θ) s (apply ahead θ)
    waits_under A G r s ahead θ w = record {
      k = w.k;
      i = w.i;
      clause = w.clause;
      written_as = w.written_as;
      after = w.after;
      β = comp w.β θ;
      marks = w.marks;
      is_clause = w.is_clause;
      at_place = w.at_place;
      row = w.row;
      holds = sound.holds_under w.marks w.β θ w.holds;
      reads = ap (λ t. sub t θ) w.reads ∙ sub_comp w.written_as w.β θ;
      numbered = w.numbered;
      head_reads = sym (sub_comp w.clause.head w.β θ) ∙ ap (λ t. sub t θ) w.head_reads;
      covered = (w.covered.0, w.covered.1, covered_under s w.covered.0 G θ w.covered.2);
      ahead_reads = ap (λ xs. apply xs θ) w.ahead_reads ∙ apply_written p w.after w.β θ;
    }

    -- what stands below an atom in progress goes on standing there under a further substitution
    pub frames_under : {A : Term} {r : ℕ} {items : List Item} (θ : Subst) → Frames A r items → Frames (sub A θ) r (apply items θ)
    frames_under θ bottom = bottom
    frames_under θ (frame {A} {G} {r} {s} {ahead} {items} {rest} w e below) =
        frame (waits_under A G r s ahead θ w) (ap (λ xs. apply xs θ) e ∙ apply_append ahead (end s G ∷ rest) θ) (frames_under θ below)
