-- Every run is covered: a closed set of rows that has the goal's call covers each atom called and each atom solved.
-- The idea: the rows keep up with the run. Shown of wider steps (any substitution for the clause, any for the rest), which the faithful steps are among.
use Prim.Native.Nat.{ℕ, zero, suc}
use mathlib.Core.Path.{◌≡◌, refl, sym, ap, ◌∙◌}
use mathlib.Core.List.{List, [], ◌∷◌, ◌++◌}
use Rattle.terms.specs.Term.{Term, Subst, sub, comp}
use Rattle.terms.proofs.Substs.{sub_comp}
use Rattle.marks.specs.Domain.{Domain, Sound}
use Rattle.program.specs.Program.{Nth, Clause, Program}
use Rattle.program.specs.Shapes.{shape_of, number, Listed}
use Rattle.program.proofs.ShapeLaws.{body_shape_law, goal_shape, shape_instance, numbered, numbered_number}
use Rattle.program.proofs.ListLaws.{listed_decided}
use Rattle.table.specs.Rules.{Row, call, Reached, first, next, calls, conts, solves}
use Rattle.table.specs.Rounds.{Closed}
use Rattle.runs.specs.Run.{Item, atom, end, apply, written, renamed, Step, put, leave, Run, start, step}
use Rattle.runs.specs.Cover.{ByCall, BySolution, CoversRuns}
use Rattle.runs.proofs.Items.{From, all, from_nth, from_next, from_end, apply_append, apply_written}
use Rattle.runs.proofs.Frames.{Frames, bottom, frame, frames_under, covered_under}

-- a step with any substitution β for the clause's variables and any θ for all that is in sight: neither fresh nor finite
pub data Wide (p : Program) : List Item → List Item → Type 0 where
  put_any : {k s : ℕ} {c : Clause} {A : Term} {rest : List Item} (β θ : Subst)
      → Nth p.clauses k c → sub c.head β ≡ sub A θ
      → Wide p (atom s A ∷ rest) (written p c.body β ++ (end s (sub A θ) ∷ apply rest θ))
  leave_any : {s : ℕ} {A : Term} {rest : List Item} → Wide p (end s A ∷ rest) rest

-- a step of a run is a wide one: the clause's variables go where the renaming and then the substitution take them
pub step_wide : (p : Program) {items items' : List Item} → Step p items items' → Wide p items items'
step_wide p (put {k} {s} {c} {A} {rest} ρ θ h fresh finite e) =
    rw (apply_append (written p c.body (renamed ρ)) (end s A ∷ rest) θ, apply_written p c.body (renamed ρ) θ)
    (put_any (comp (renamed ρ) θ) θ h (sym (sub_comp c.head (renamed ρ) θ) ∙ e))
step_wide p leave = leave_any

-- the goals in progress that n wide steps lead to
pub data WideRun (D : Domain) (p : Program) (goal : D.Mark) : ℕ → List Item → Type 0 where
  start_any : (σ : Subst) → D.Holds goal σ → WideRun D p goal zero (atom 0 (sub p.goal σ) ∷ [])
  step_any : {n : ℕ} {items items' : List Item} → WideRun D p goal n items → Wide p items items' → WideRun D p goal (suc n) items'

pub run_wide : (D : Domain) (p : Program) (goal : D.Mark) {n : ℕ} {items : List Item} → Run D p goal n items → WideRun D p goal n items
run_wide D p goal (start σ holds) = start_any σ holds
run_wide D p goal (step r s) = step_any (run_wide D p goal r) (step_wide p s)

module _ (D : Domain) (sound : Sound D) (p : Program) (goal : D.Mark) (T : Row D.Mark → Type 0) (closed : Closed D p T) where
  -- a goal in progress whose leftmost item is covered, with the frames behind it
  pub data Progress : List Item → Type 0 where
    done : Progress []
    calling : {s : ℕ} {A : Term} {rest : List Item} → ByCall D p T s A → Frames D p T A s rest → Progress (atom s A ∷ rest)
    solving : {s : ℕ} {A : Term} {rest : List Item} → BySolution D p T s A → Frames D p T A s rest → Progress (end s A ∷ rest)

  -- the rules' marks have come past the first i body atoms of a clause, and hold: what stands next is covered
  pub arrive : (after : List Term) (k i : ℕ) (c : Clause) (N : D.Mark) (β : Subst) (G : Term) (s : ℕ) (rest : List Item)
      → Nth p.clauses k c → From c.body i after → Reached D p T k i N → D.Holds N β
      → sub c.head β ≡ G → ByCall D p T s G → Frames D p T G s rest
      → Progress (written p after β ++ (end s G ∷ rest))
  arrive [] k i c N β G s rest h f reached holds e by below =
      let passed = sound.pass_holds c.head by.2.shape N by.0 β by.2.terms (e ∙ by.2.reads) holds by.2.holds in
      solving (
        passed.0,
        closed _ (solves h (rw (from_end f) at reached) by.2.numbered by.1 passed.1),
        record { shape = by.2.shape; numbered = by.2.numbered; terms = by.2.terms; reads = by.2.reads; holds = passed.2 },
      )
      below
  arrive (A ∷ after) k i c N β G s rest h f reached holds e by below =
      let taken = sound.number_holds A (number A) N β (numbered A β) (numbered_number A β) holds in
      let kept = sound.keep_holds (Listed c i) N β (listed_decided c i) holds in
      calling (
        taken.0,
        closed _ (calls reached h (from_nth f) taken.1),
        record { shape = shape_of A; numbered = body_shape_law p h (from_nth f); terms = numbered A β; reads = shape_instance A β; holds = taken.2 },
      )
      (frame
      (record {
        k = k;
        i = i;
        clause = c;
        written_as = A;
        after = after;
        β = β;
        marks = kept.0;
        is_clause = h;
        at_place = f;
        row = closed _ (conts reached h (from_nth f) kept.1);
        holds = kept.2;
        reads = refl;
        numbered = refl;
        head_reads = e;
        covered = by;
        ahead_reads = refl;
      })
      refl
      below)

  -- rule 1 keeps up with a clause that is put for an atom
  pub call_covers : (k s : ℕ) (c : Clause) (A : Term) (rest : List Item) (β θ : Subst)
      → Nth p.clauses k c → sub c.head β ≡ sub A θ → ByCall D p T s A → Frames D p T A s rest
      → Progress (written p c.body β ++ (end s (sub A θ) ∷ apply rest θ))
  call_covers k s c A rest β θ h e (M, row, by) below =
      let under = covered_under D p T sound s M A θ by in
      let passed = sound.pass_holds under.shape c.head M D.none under.terms β (sym under.reads ∙ sym e) under.holds (sound.holds_none β) in
      arrive c.body k 0 c passed.0 β (sub A θ) s (apply rest θ) h all (first h under.numbered row passed.1) passed.2 e (M, row, under)
      (frames_under D p T sound θ below)

  -- rule 2 keeps up with an end mark that is taken away
  pub solution_covers : {s : ℕ} {A : Term} {rest : List Item} → BySolution D p T s A → Frames D p T A s rest → Progress rest
  solution_covers by bottom = done
  solution_covers {s} {A} (L, row, by) (frame {G = G} {s = s'} {rest = rest} w e below) =
      let passed = sound.pass_holds by.shape w.written_as L D.none by.terms w.β (sym by.reads ∙ w.reads) by.holds (sound.holds_none w.β) in
      let joined = sound.join_holds w.marks passed.0 w.β w.holds passed.2 in
      rw (e, w.ahead_reads)
      (arrive w.after w.k (suc w.i) w.clause joined.0 w.β G s' rest w.is_clause (from_next w.at_place)
      (next w.is_clause (from_nth w.at_place) by.numbered w.row row passed.1 joined.1)
      joined.2 w.head_reads w.covered below)

  -- a wide step leads from progress to progress
  pub wide_covers : {items items' : List Item} → Wide p items items' → Progress items → Progress items'
  wide_covers (put_any {k} {s} {c} {A} {rest} β θ h e) (calling by below) = call_covers k s c A rest β θ h e by below
  wide_covers leave_any (solving by below) = solution_covers by below

  module _ (own : shape_of p.goal ≡ p.goal) (has : T (call 0 goal)) where
    -- the goal's call covers the start
    pub start_covered : (σ : Subst) → D.Holds goal σ → Progress (atom 0 (sub p.goal σ) ∷ [])
    start_covered σ holds =
        calling (goal, has, record { shape = shape_of p.goal; numbered = goal_shape p; terms = σ; reads = ap (λ t. sub t σ) (sym own); holds = holds }) bottom

    -- the wider statement: after any number of wide steps the leftmost item is covered
    pub run_covered : {n : ℕ} {items : List Item} → WideRun D p goal n items → Progress items
    run_covered (start_any σ holds) = start_covered σ holds
    run_covered (step_any r s) = wide_covers s (run_covered r)

    pub called_covered : {s : ℕ} {A : Term} {rest : List Item} → Progress (atom s A ∷ rest) → ByCall D p T s A
    called_covered (calling by below) = by

    pub solved_covered : {s : ℕ} {A : Term} {rest : List Item} → Progress (end s A ∷ rest) → BySolution D p T s A
    solved_covered (solving by below) = by

    -- demand 3, of every closed set of rows that has the goal's call
    pub closed_covers_runs : CoversRuns D p goal T
    closed_covers_runs = record {
      calls = λ n s A called. called_covered (run_covered (run_wide D p goal called.1));
      solutions = λ n s A solved. solved_covered (run_covered (run_wide D p goal solved.1));
    }
