-- A step at a place of a clause: the marks and the answers that are kept stay so, where there is room.
use Prim.Native.Nat.{ℕ, ◌≤◌}
use native.Mathlib.Omega.{arith}
use mathlib.Core.Path.{◌≡◌, refl}
use mathlib.Core.List.{List}
use Rattle.std.specs.Prelude.{Result, Ok, Err, IfOk}
use Rattle.rows.specs.declared.store.NoRoom.{NoRoom}
use Rattle.rows.specs.Store.{reached}
use Rattle.rows.specs.Rows.{keys_of}
use Rattle.steps.specs.Steps.{Given, Stepped}
use Rattle.steps.specs.Situation.{Situation}
use Rattle.steps.proofs.Stepping.{stepped_within}
use Rattle.joining.specs.KeptAnswers.{KeepsAnswers}
use Rattle.ends.specs.Ends.{Scratch}
use Rattle.ends.specs.Keeping.{KeepsMarks}
use Rattle.clauses.specs.declared.workspace.Workspace.{Workspace}
use Rattle.clauses.specs.Working.{Working}
use Rattle.ends.proofs.KeptMarks.{step_keeps, keeps_marks}
use Rattle.joining.proofs.KeptPlaces.{step_keeps_answers, keeps_answers}

-- what is so of the rows of a step, where there is room
pub on_ok : {P : ℕ → Type 0} (r : Result ℕ NoRoom) → ((m : ℕ) → r ≡ Ok m → P m) → IfOk r P
on_ok (Ok m) f = f m refl
on_ok (Err e) f = tt

module _ (words dir table heads : List ℕ) (since rows : ℕ) (s : Situation words dir table heads since rows) (buckets : List ℕ) (number room n : ℕ) (table' buckets' : List ℕ) {Must : ℕ → Type 0}
    (r : Result ℕ NoRoom) (l : rows ≤ n) (within : IfOk r (λ m. m ≤ room)) (step : Stepped (Given s.p (keys_of table rows)) number room n table buckets Must (reached room r) table' buckets') where
  pub marks_after : (kept : List ℕ) → KeepsMarks words dir table kept rows n → IfOk r (λ m. KeepsMarks words dir table' kept rows m)
  marks_after kept keeps = on_ok r (λ m is.
      keeps_marks table' kept rows m s.setting
      (step_keeps s.setting (Given s.p (keys_of table rows)) number room n m rows table buckets table' buckets' kept Must l (rw is at step) (rw is at within) (keeps s.p s.setting)))

  pub answers_after : (answered : List ℕ) → KeepsAnswers words dir table answered rows → IfOk r (λ m. KeepsAnswers words dir table' answered rows)
  answers_after answered keeps = on_ok r (λ m is.
      keeps_answers table' answered rows s.setting
      (step_keeps_answers s.p (Given s.p (keys_of table rows)) number room n m rows table buckets table' buckets' answered Must l (rw is at step) (rw is at within) (keeps s.p s.setting)))

  -- and what the rounds work in is as the next clause asks for it
  pub works_after : (work : Workspace) → work.buckets ≡ buckets' → Scratch work.answers work.found → IfOk r (λ m. KeepsMarks words dir table' work.kept rows m)
      → IfOk r (λ m. KeepsAnswers words dir table' work.answered rows) → IfOk r (λ m. Working words dir table' work rows m room)
  works_after work same scratch marks answers = on_ok r (λ m is.
      let g = stepped_within (Given s.p (keys_of table rows)) number room n m table buckets table' buckets' Must (rw is at step) (rw is at within) in
      record {
        writable = rw same g.writable;
        behind = omega (arith, l, g.more);
        scratch = scratch;
        marks = rw is at marks;
        answers = rw is at answers;
      })
