-- A shape and the head of a clause: without a new call row, or apart, they pass no marks; else the call rows can be walked.
use Prim.Native.Nat.{ℕ, ◌+◌, ◌≤◌, ◌<◌}
use native.Mathlib.Omega.{arith}
use mathlib.Core.Path.{◌≡◌}
use mathlib.Core.List.{List}
use lib.ListN.{length, get_or}
use Rattle.terms.specs.Mask.{Marks}
use Rattle.terms.specs.Unifier.{Apart}
use Rattle.terms.proofs.Masks.{marks_for}
use Rattle.program.specs.Program.{Program}
use Rattle.program.specs.Shapes.{shapes}
use Rattle.program.specs.Limits.{max_shapes}
use Rattle.program.proofs.Nths.{nth_below}
use Rattle.directory.specs.Layout.{shape_vars, dir_words}
use Rattle.directory.specs.Directory.{ShapeAt}
use Rattle.table.proofs.ShapeVariables.{within_few}
use Rattle.table.proofs.Steps.{opens_apart}
use Rattle.steps.specs.Situation.{Meeting, Unifying}
use Rattle.calling.specs.Calls.{OpenedBy, CallsOf, MarkAsked, ShapeOf, MarkShape}
use Rattle.steps.proofs.Meetings.{setting_within}
use Rattle.steps.proofs.Bodies.{head_is_atom}
use Rattle.calling.proofs.CallRows.{new_row}

module _ {words dir table heads : List ℕ} {p : Program} {since rows k s start cells there : ℕ}
    (a : ShapeOf words dir table heads p since rows k s start cells there) where
  pub shape_entry : ShapeAt (shapes p) dir a.S s
  shape_entry = a.setting.directory.shape a.nth_shape

  pub shape_in_dir : (s < max_shapes) × (length dir ≡ dir_words)
  shape_in_dir = let d = a.setting.directory in (omega (arith, nth_below a.nth_shape, d.shape_count_law, d.shapes_most), d.size)

  pub shape_slot : s < length heads
  shape_slot = rw a.chains.all_heads (let l = shape_in_dir.0 in omega arith)

  abbrev pub shape_meeting : Meeting words dir s start cells
  shape_meeting =
      record {
        p = p;
        setting = a.setting;
        S = a.S;
        nth_shape = a.nth_shape;
        A = a.c.head;
        stands = a.stands;
        atom = head_is_atom a.setting a.nth_clause;
      }

  -- no new row
  pub opened_old : (newest : ℕ) → newest ≡ get_or heads s 0 → newest ≤ since → (N : ℕ) → OpenedBy p table since rows k s N → ⊥
  opened_old newest e l N (M, new, o) =
      let (r, m, h, at, _) = new_row p table heads since rows a.chains s (let few = shape_in_dir.0 in omega arith) M new in
      (a.chains.by_slot.from_heads s shape_slot).last r (rw (← e) (omega arith)) h at

  -- no unifier
  pub opened_apart : Apart a.S a.c.head → (N : ℕ) → OpenedBy p table since rows k s N → ⊥
  opened_apart apart N (M, new, o) = opens_apart p a.nth_clause a.nth_shape apart o

  -- a unifier
  abbrev pub opened_calls : (newest here : ℕ) (sets : List ℕ) → newest ≡ get_or heads s 0 → Unifying a.S a.c.head sets → here < 65536
      → Marks (λ v. v < get_or dir (shape_vars + s) 0) here → CallsOf p table sets newest here there since rows k
  opened_calls newest here sets e u small m =
      record {
        heads = heads;
        chains = a.chains;
        few = within_few p (setting_within a.setting);
        s = s;
        S = a.S;
        nth_shape = a.nth_shape;
        c = a.c;
        nth_clause = a.nth_clause;
        unifying = u;
        shape_variables = record { small = small; marked = marks_for here (λ v. ((shape_entry.shape_variables v).1, (shape_entry.shape_variables v).0)) m };
        head_variables = a.head_variables;
        newest_is = e;
      }

-- for a set of marks on the head
abbrev pub mark_calls : {words dir table heads : List ℕ} {since s start cells there : ℕ} (a : MarkShape words dir table heads since s start cells there)
    (newest here : ℕ) (sets : List ℕ) → newest ≡ get_or heads s 0
    → Unifying a.shape.S a.shape.c.head sets → here < 65536 → Marks (λ v. v < get_or dir (shape_vars + s) 0) here
    → MarkAsked table sets newest here there since
mark_calls a newest here sets e u small m =
    record { p = a.p; rows = a.rows; k = a.k; calls = opened_calls a.shape newest here sets e u small m }
