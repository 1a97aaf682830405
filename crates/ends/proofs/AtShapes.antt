-- A shape that unifies with the head of a clause: its new call rows open the body, and then marks on the head go to its call rows.
use Prim.Native.Nat.{ℕ, ◌+◌, ◌≤◌, ◌<◌}
use mathlib.Core.Path.{◌≡◌, refl, subst}
use mathlib.Core.List.{List}
use lib.ListN.{length, get_or}
use Rattle.std.specs.Prelude.{Option, Some, None}
use Rattle.terms.specs.Cells.{variables}
use Rattle.terms.specs.Mask.{Marks}
use Rattle.terms.proofs.Masks.{marks_for}
use Rattle.marks.specs.Passing.{VariablesOf}
use Rattle.program.specs.Program.{Nth, Clause}
use Rattle.program.specs.Shapes.{shapes}
use Rattle.program.specs.Limits.{max_shapes}
use Rattle.program.proofs.ShapeLaws.{nth_same}
use Rattle.directory.specs.Layout.{shape_vars, dir_words}
use Rattle.directory.specs.Directory.{ShapeAt}
use Rattle.rows.specs.Rows.{keys_of}
use Rattle.table.specs.Rules.{Row}
use Rattle.table.specs.Keys.{first_solution}
use Rattle.table.proofs.ShapeVariables.{within_few}
use Rattle.steps.specs.Steps.{Given, Writable, Grew, Stepped, Emitted, emitted_call, emitted_cont}
use Rattle.steps.proofs.Meetings.{setting_within}
use Rattle.steps.proofs.ShapeLinks.{shape_below}
use Rattle.steps.proofs.Stepping.{grew_none}
use Rattle.calling.specs.Calls.{OpenedBy, Emits, EmitAsked}
use Rattle.solving.specs.Solving.{ToShape, SetsAsked, SolvedAt}
use Rattle.solving.proofs.SolveShape.{to_stays, found_stays}
use Rattle.solving.proofs.SolveSets.{stepped_on}
use Rattle.ends.specs.declared.heads.Opening.{Opening}
use Rattle.ends.specs.declared.heads.Head.{Head}
use Rattle.ends.specs.AtHead.{FirstAtom, NoAtom, OpensAt, AtShape, ShapeGives}

module _ {dir table sets known found : List ℕ} {head : Head} {since rows s newest known-marks marks : ℕ}
    (a : AtShape dir table sets known found head since rows s newest known-marks marks) where
  shape_entry : ShapeAt (shapes a.p) dir a.S s
  shape_entry = a.setting.directory.shape a.nth_shape

  pub shape_in_dir : (s < max_shapes) × (length dir ≡ dir_words)
  shape_in_dir = (shape_below a.setting a.nth_shape, a.setting.directory.size)

  pub shape_variables_few : get_or dir (shape_vars + s) 0 ≤ variables
  shape_variables_few = shape_entry.few

  pub here_variables : {here : ℕ} → (here < 65536) × Marks (λ v. v < get_or dir (shape_vars + s) 0) here → VariablesOf a.S here
  here_variables {here} (l, m) = record { small = l; marked = marks_for here (λ v. ((shape_entry.shape_variables v).1, (shape_entry.shape_variables v).0)) m }

  -- the clause has a body
  abbrev pub emit_asked : {here : ℕ} {opening : Opening} → VariablesOf a.S here → head.opening ≡ Some opening
      → EmitAsked dir opening.order.variables table sets opening.order.count newest here head.there since rows opening.atom
  emit_asked {opening = opening} h some =
      let f : FirstAtom a.p a.k a.c opening.atom opening.order.variables opening.order.count = subst (λ (o : Option Opening). OpensAt a.p a.k a.c o) some a.opens in
      record {
        place =
            record {
              words = a.words;
              p = a.p;
              setting = a.setting;
              k = a.k;
              i = 0;
              c = a.c;
              A = f.A;
              nth_clause = a.nth_clause;
              nth_atom = f.nth_atom;
              is = f.is;
              in_order = f.in_order;
            };
        is_first = refl;
        calls =
            record {
              heads = a.heads;
              chains = a.chains;
              few = within_few a.p (setting_within a.setting);
              s = s;
              S = a.S;
              nth_shape = a.nth_shape;
              c = a.c;
              nth_clause = a.nth_clause;
              unifying = a.unifying;
              shape_variables = h;
              head_variables = a.head_variables;
              newest_is = a.newest_is;
            };
      }

  abbrev to_shape : {slot : ℕ} → slot ≡ first_solution + s → ToShape table since rows newest slot
  to_shape e =
      record {
        words = a.words;
        dir = dir;
        heads = a.heads;
        p = a.p;
        setting = a.setting;
        chains = a.chains;
        k = a.k;
        c = a.c;
        nth_clause = a.nth_clause;
        s = s;
        S = a.S;
        nth_shape = a.nth_shape;
        slot_is = e;
        newest_is = a.newest_is;
      }

  module _ (round room n : ℕ) (buckets : List ℕ) where
    -- the new call rows have opened the body
    abbrev pub Opened : ℕ → List ℕ → List ℕ → Type 0
    Opened n' table' buckets' = Grew (Given a.p (keys_of table rows)) round room n table buckets (Emits a.p a.k 0 (OpenedBy a.p table since rows a.k s)) n' table' buckets'

    -- the clause has no body
    pub opened_none : Writable table buckets n room → head.opening ≡ None → Opened n table buckets
    opened_none writable none = grew_none (Given a.p (keys_of table rows)) round room n table buckets _ writable (λ key (N, o, (row, e, is)). absurd (no_row e))
      where
        no_atom : NoAtom a.c
        no_atom = subst (λ (o : Option Opening). OpensAt a.p a.k a.c o) none a.opens

        no_row : {N : ℕ} {row : Row ℕ} → Emitted a.p a.k 0 N row → ⊥
        no_row (emitted_call {A = A} hc hA r) = no_atom A (subst (λ (d : Clause). Nth d.body 0 A) (nth_same hc a.nth_clause) hA)
        no_row (emitted_cont {A = A} hc hA r) = no_atom A (subst (λ (d : Clause). Nth d.body 0 A) (nth_same hc a.nth_clause) hA)

    module _ (behind : rows ≤ n) {n' : ℕ} {table' buckets' : List ℕ} (g : Opened n' table' buckets') where
      abbrev pub sets_asked : {slot here : ℕ} → slot ≡ first_solution + s → VariablesOf a.S here → SetsAsked table' sets known found since rows newest slot here head.there known-marks marks
      sets_asked e h =
          record {
            to = to_stays (to_shape e) table' n behind g.same_rows g.same_length;
            shape_sets = record { unifying = a.unifying; shape_variables = h; head_variables = a.head_variables };
            known_for = found_stays a.p table table' rows n a.k _ known known-marks behind g.same_rows a.known_on;
            found_for = found_stays a.p table table' rows n a.k _ found marks behind g.same_rows a.found_on;
          }

      pub shape_step : {n'' : ℕ} {table'' buckets'' : List ℕ}
          → Stepped (Given a.p (keys_of table' rows)) round room n' table' buckets' (SolvedAt a.p (keys_of table' since) (keys_of table' rows) a.k known found s) n'' table'' buckets''
          → Stepped (Given a.p (keys_of table rows)) round room n table buckets (ShapeGives a.p (keys_of table since) (keys_of table rows) a.k known found s) n'' table'' buckets''
      shape_step step =
          stepped_on a.p since rows round room n n' _ table buckets table' buckets' _ _ (Emits a.p a.k 0 (OpenedBy a.p table since rows a.k s))
          (λ ks₀ ks. SolvedAt a.p ks₀ ks a.k known found s) a.chains.new behind g step
