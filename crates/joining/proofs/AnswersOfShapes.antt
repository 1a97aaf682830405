-- The answers of all shapes of a body atom's predicate, shape by shape: a shape of another predicate has none, and each row is of one shape.
use Prim.Native.Nat.{ℕ, ◌+◌, ◌-◌, ◌≤◌, ◌<◌}
use native.Mathlib.Omega.{arith}
use mathlib.Core.Path.{◌≡◌, sym, ap, subst, ◌∙◌}
use mathlib.Core.Logic.{inl, inr, ⊎_elim}
use mathlib.Core.List.{List}
use lib.ListN.{length, get_or, take, drop}
use Rattle.terms.specs.Term.{Term}
use Rattle.terms.specs.Cells.{encs, Atom}
use Rattle.terms.specs.Walk.{Cells, Present}
use Rattle.terms.proofs.RunVariables.{cells_encs}
use Rattle.marks.specs.Pass.{Pass}
use Rattle.marks.specs.Passing.{VariablesOf}
use Rattle.marks.proofs.AtomVariables.{present_small, present_variables}
use Rattle.program.specs.Program.{Nth, Program}
use Rattle.program.specs.Shapes.{shapes}
use Rattle.program.specs.Limits.{max_rows, max_shapes}
use Rattle.rows.specs.Rows.{slot_at, mask_at}
use Rattle.rows.specs.Chains.{Latest}
use Rattle.directory.specs.Layout.{body_start, body_cells, predicate_shape, shape_next}
use Rattle.directory.specs.Directory.{Link, predicate_of, StandsAt}
use Rattle.table.specs.Keys.{first_solution}
use Rattle.steps.specs.Situation.{Setting, Situation, BodyOf}
use Rattle.joining.specs.Answers.{Listing, Answer, Parted}
use Rattle.joining.specs.AnswerSteps.{AnswerOf, AnswerBefore, Sided, MetAsked, GivenWith}
use Rattle.steps.proofs.ShapeAtoms.{shape_is_atom}
use Rattle.steps.proofs.Meetings.{setting_within}
use Rattle.steps.proofs.BodyAtoms.{body_at, body_atom, some_cells, predicate_there, arguments_there}
use Rattle.steps.proofs.ShapeLinks.{shapes_left, same_predicate, link_below, next_link, links_fall, passed_before, all_passed}
use Rattle.joining.proofs.AnswerLists.{found_for, sources_few}
use Rattle.joining.proofs.AnswerSides.{sided_none, sided_for}

-- a shape that passes marks to an atom has its predicate
pub passing_predicate : {words dir : List ℕ} {p : Program} → Setting words dir p → {s : ℕ} {S A : Term} {M q : ℕ} → Nth (shapes p) s S
    → Atom p.predicates p.functions A → Pass S M A 0 q → predicate_of S ≡ predicate_of A
passing_predicate {p = p} setting h a pass =
    let s = shape_is_atom p (setting_within setting) h in
    same_predicate s.predicate a.predicate s.arguments a.arguments pass.α pass.β s.is a.is pass.unifier.unifies

-- the answers of the shapes passed stand in the list
pub record Shaped (p : Program) (table : List ℕ) (A : Term) (from since rows link : ℕ) (seen answers : List ℕ) (fresh older : ℕ) : Type 0 where
  pub k : ℕ
  pub links : Link (shapes p) (predicate_of A) k link
  pub sided : Sided (AnswerBefore p table A from rows k) since rows seen answers fresh older

-- the same by other names of the link, the lists and the counts
pub shaped_as : {p : Program} {table : List ℕ} {A : Term} {from since rows link link' : ℕ} {seen seen' answers answers' : List ℕ} {fresh fresh' older older' : ℕ}
    → link ≡ link' → seen ≡ seen' → answers ≡ answers' → fresh ≡ fresh' → older ≡ older' → Shaped p table A from since rows link' seen' answers' fresh' older'
    → Shaped p table A from since rows link seen answers fresh older
shaped_as l s a f o k = rw l (rw s (rw a (rw f (rw o k))))

module _ {words dir table heads : List ℕ} {j since rows : ℕ} (w : Situation words dir table heads since rows) (b : BodyOf w.p j) where
  abbrev start : ℕ
  start = get_or dir (body_start + j) 0

  abbrev cells : ℕ
  cells = get_or dir (body_cells + j) 0

  stands : StandsAt words b.A start cells
  stands = (body_at w.setting b).stands

  atom : Atom w.p.predicates w.p.functions b.A
  atom = body_atom w.setting b

  pub predicate_is : get_or words start 0 ≡ predicate_of b.A
  predicate_is = predicate_there stands atom.predicate atom.arguments atom.is ∙ sym (ap predicate_of atom.is)

  pub declared : get_or words start 0 < length w.p.predicates
  declared = rw (predicate_there stands atom.predicate atom.arguments atom.is) atom.declared

  arguments_are : take (start + cells - (start + 1)) (drop (start + 1) words) ≡ encs atom.arguments
  arguments_are = arguments_there stands atom.predicate atom.arguments atom.is

  pub cells_some : 0 < cells
  cells_some = some_cells stands atom.predicate atom.arguments atom.is

  pub cells_fit : start + cells ≤ length words
  cells_fit = stands.fits

  pub argument_cells : Cells (take (start + cells - (start + 1)) (drop (start + 1) words))
  argument_cells = rw arguments_are (cells_encs w.p.functions atom.arguments atom.keeps)

  pub atom_variables : {start' cells' : ℕ} → start' ≡ start → cells' ≡ cells → (there : ℕ) → Present (take (start' + cells' - (start' + 1)) (drop (start' + 1) words)) there → VariablesOf b.A there
  atom_variables s-is c-is there h =
      let here = rw (s-is, c-is) at h in
      let small = present_small (take (start + cells - (start + 1)) (drop (start + 1) words)) there argument_cells here in
      rw atom.is (present_variables w.p.functions atom.predicate atom.arguments there atom.keeps small (rw arguments_are at here))

  pub shaped_begins : {from link predicate start' : ℕ} {seen answers : List ℕ} → link ≡ get_or dir (predicate_shape + predicate) 0 → predicate ≡ get_or words start' 0 → start' ≡ start
      → Listing seen answers 0 → Shaped w.p table b.A from since rows link seen answers 0 max_rows
  shaped_begins l-is p-is s-is l =
      record {
        k = 0;
        links = rw (l-is, p-is, s-is) (subst (λ (q : ℕ). Link (shapes w.p) q 0 (get_or dir (predicate_shape + get_or words start 0) 0)) predicate_is (w.setting.directory.first_shape (get_or words start 0) declared));
        sided = sided_none l (λ r q a. omega (arith, a.1));
      }

  module _ {from link : ℕ} {seen answers : List ℕ} {fresh older : ℕ} (k : Shaped w.p table b.A from since rows link seen answers fresh older) (h : 0 < link) where
    abbrev s : ℕ
    s = link - 1

    abbrev newest : ℕ
    newest = get_or heads (first_solution + s) 0

    pub shape_few : s < max_shapes
    shape_few = link_below w.setting k.links h

    pub shaped_falls : {next : ℕ} → next ≡ get_or dir (shape_next + s) 0 → shapes_left next < shapes_left link
    shaped_falls e = rw e (links_fall w.setting k.links h)

    pub slot_there : first_solution + s < length heads
    slot_there = omega (arith, shape_few, w.chains.all_heads)

    latest : Latest (slot_at table) (first_solution + s) rows newest
    latest = w.chains.by_slot.from_heads (first_solution + s) slot_there

    pub met_asked : {newest' start' cells' there : ℕ} → newest' ≡ newest → start' ≡ start → cells' ≡ cells → VariablesOf b.A there
        → MetAsked words dir table seen answers s newest' start' cells' there from since fresh older
    met_asked {newest'} {start'} {cells'} {there} n-is s-is c-is vars =
        record {
          meeting =
              record {
                p = w.p;
                setting = w.setting;
                S = (k.links.named h).1;
                nth_shape = (k.links.named h).2;
                A = b.A;
                stands = rw (s-is, c-is) stands;
                atom = atom;
              };
          variables_there = vars;
          k = k.k;
          rows = rows;
          shape =
              record {
                behind = (k.links.named h).0;
                latest = rw n-is latest;
                links = w.chains.by_slot.from_rows;
                most = w.chains.most;
                fits = w.chains.fits;
                sided = k.sided;
              };
        }

    -- no row of this shape is late enough
    pub none_newer : newest ≤ from → Sided (GivenWith w.p b.A k.k s rows table from) since rows seen answers fresh older
    none_newer l = sided_for (λ r q. (inl, ⊎_elim (λ a. a) (λ a. absurd (latest.last r (omega (arith, a.2.late)) a.2.early a.2.its_slot)))) k.sided

    pub shaped_goes_on : {seen' answers' : List ℕ} {fresh' older' : ℕ} → Sided (GivenWith w.p b.A k.k s rows table from) since rows seen' answers' fresh' older'
        → Shaped w.p table b.A from since rows (get_or dir (shape_next + s) 0) seen' answers' fresh' older'
    shaped_goes_on d =
        record {
          k = link;
          links = next_link w.setting k.links h;
          sided =
              sided_for
              (λ r q. (⊎_elim (λ a. (a.0, omega (arith, a.1, (k.links.named h).0), a.2)) (λ a. (s, omega arith, a)), λ a. one r q a.0 a.1 a.2)) d;
        }
      where
        one : (r q t : ℕ) → t < link → AnswerOf w.p table b.A from rows t r q → GivenWith w.p b.A k.k s rows table from r q
        one r q t l a =
            ⊎_elim (λ below. inl (t, below, a)) (λ e. inr (subst (λ (x : ℕ). AnswerOf w.p table b.A from rows x r q) e a))
            (passed_before w.setting k.links a.1 (passing_predicate w.setting a.1 atom a.3) l)

    -- the answers of this shape, as asked
    pub shaped_met : {newest' start' cells' there : ℕ} → newest' ≡ newest → start' ≡ start → cells' ≡ cells → VariablesOf b.A there
        → {seen' answers' : List ℕ} {fresh' older' : ℕ}
        → ((m : MetAsked words dir table seen answers s newest' start' cells' there from since fresh older)
        → Sided (GivenWith m.meeting.p m.meeting.A m.k s m.rows table from) since m.rows seen' answers' fresh' older')
        → Shaped w.p table b.A from since rows (get_or dir (shape_next + s) 0) seen' answers' fresh' older'
    unfolding met_asked
    shaped_met n-is s-is c-is vars f = shaped_goes_on (f (met_asked n-is s-is c-is vars))

  -- at link 0 the answers of all shapes stand in the list
  pub shaped_ends : {from link : ℕ} {seen answers : List ℕ} {fresh older : ℕ} → from ≤ since → Shaped w.p table b.A from since rows link seen answers fresh older → link ≤ 0
      → Parted w.p table b.A from since rows seen answers fresh older
  shaped_ends {from} {link} {seen} {answers} {fresh} {older} ordered k h =
      record {
        front = found_for (λ q. (
          λ g. out q since rows g.0 g.1 g.2.2.2.early g.2,
          λ (r, l, e, t, S, m, slot, pass). (r, l, back q r (omega arith) e t S m slot pass),
        )) k.sided.front;
        back = λ q. (
          λ s. let g = (k.sided.back q).0 s in out q from since g.0 g.2.2.2.late g.1 g.2,
          λ (r, l, e, t, S, m, slot, pass). (k.sided.back q).1 (r, e, back q r l (omega (arith, w.chains.new)) t S m slot pass),
        );
        room = omega (arith, sources_few k.sided.sources, w.chains.most, k.sided.most);
        most = k.sided.most;
      }
    where
      out : (q from' to r : ℕ) → from' ≤ r → r < to → AnswerBefore w.p table b.A from rows k.k r q → Answer w.p table b.A from' to q
      out q from' to r l e (t, _, (S, m, o, pass)) = (r, l, e, t, S, m, o.its_slot, pass)

      back : (q r : ℕ) → from ≤ r → r < rows → (t : ℕ) (S : Term) → Nth (shapes w.p) t S → slot_at table r ≡ first_solution + t → Pass S (mask_at table r) b.A 0 q
          → AnswerBefore w.p table b.A from rows k.k r q
      back q r l e t S m slot pass =
          (t, all_passed w.setting k.links h m (passing_predicate w.setting m atom pass), (S, m, record { late = l; early = e; its_slot = slot }, pass))
