-- A body atom's run in the words, from where the directory says that it stands.
use Prim.Native.Nat.{ℕ, ◌+◌, ◌-◌, ◌≤◌}
use mathlib.Core.Path.{◌≡◌, ◌∙◌}
use mathlib.Core.List.{List}
use lib.ListN.{length, get_or, take, drop}
use Rattle.directory.specs.Layout.{body_start, body_cells}
use Rattle.directory.proofs.Cuts.{middle_part}
use Rattle.steps.specs.Situation.{AtomRun}
use Rattle.steps.proofs.BodyAtoms.{body_at, body_atom}
use Rattle.steps.proofs.Meetings.{setting_within}
use Rattle.joining.specs.Bodies.{BodyIn}

pub body_run : {words dir : List ℕ} {j : ℕ} (w : BodyIn words dir j) {start cells : ℕ} → start ≡ get_or dir (body_start + j) 0 → cells ≡ get_or dir (body_cells + j) 0
    → AtomRun (take (start + cells - start) (drop start words)) w.body.A × (start + cells ≤ length words)
body_run {words} w {start} {cells} e f = (
  record {
    predicates = w.p.predicates;
    functions = w.p.functions;
    is = middle_part words start cells ∙ rw (e, f) (body_at w.setting w.body).stands.run;
    atom = body_atom w.setting w.body;
    few = (setting_within w.setting).predicates_most;
  },
  rw (e, f) (body_at w.setting w.body).stands.fits,
)
