-- A clause whose marks are kept: what the step at its head gives, and what is kept and empty after it.
use Prim.Native.Nat.{ℕ, ◌+◌, ◌*◌, ◌≤◌, ◌<◌, min}
use native.Mathlib.Omega.{arith}
use mir.Syntax.{w64}
use mir.Val.{Fits}
use mathlib.Core.Path.{◌≡◌, refl}
use mathlib.Core.List.{List, Memᴰ}
use lib.ListN.{length, get_or, set, replicate}
use Rattle.program.specs.Lists.{between}
use Rattle.program.specs.Program.{Program}
use Rattle.directory.specs.Layout.{clause_vars}
use Rattle.rows.specs.Rows.{keys_of}
use Rattle.rows.specs.MaskSet.{set_words, InSet}
use Rattle.rows.specs.KeptSets.{Gained, Unkept, things, known_of, kept_words}
use Rattle.table.proofs.Added.{behind_keeps}
use Rattle.steps.specs.Steps.{Given, Writable, Stepped}
use Rattle.steps.specs.Situation.{HeadAsked}
use Rattle.steps.specs.Heads.{HeadMark, Collected, FoundOn}
use Rattle.steps.proofs.Stepping.{keys_stay, grew_none, stepped_then, stepped_must, stepped_within}
use Rattle.ends.specs.AtHead.{HeadGives}
use Rattle.ends.specs.Ends.{WithHead}
use Rattle.ends.specs.Keeping.{kept_vars, kept_set, KeepingMarks, KeepsMarks}
use Rattle.ends.proofs.HeadMarks.{mark_below}
use Rattle.ends.proofs.KeptMarks.{few_masks, keeps_marks, marks_stay}
use Rattle.ends.proofs.Endings.{known_ends, known_keeps}

-- the rows that are known, where they are fewer than the rows before the last round, and else these
pub earlier : (since known rows earliest : ℕ) → rows ≡ known → earliest ≡ min rows since → (earliest ≤ since) × (earliest ≤ known)
earlier since known rows earliest e f = (omega arith, omega arith)

-- the word that says how many rows are known is one of those that are kept
pub kept_room : (size size' k : ℕ) → k < things → size ≡ kept_words kept_set → size' ≡ size → kept_set * things + k < size'
kept_room size size' k l e e' = omega arith

pub kept_fits : (k : ℕ) → k < things → Fits w64 (kept_set * things + k) × Fits w64 ((kept_set * things + k) * 2)
kept_fits k l = (omega arith, omega arith)

module _ (words dir table heads : List ℕ) (since rows k : ℕ) (w : HeadAsked words dir table heads since rows k) (kept : List ℕ) (n : ℕ) (keeps : KeepsMarks words dir table kept rows n)
    (few : get_or dir (clause_vars + k) 0 ≤ kept_vars) (known : ℕ) (early : (known ≤ since) × (known ≤ known_of kept_set kept k)) (found new : List ℕ)
    (marked : Collected (HeadMark w.situation.p table known rows k (length w.clause.c.body)) (replicate set_words 0) found) (unkept : Unkept kept (kept_set * k) kept_set found new) where
  abbrev p : Program
  p = w.situation.p

  abbrev keeping : KeepingMarks p table kept rows (keys_of table n)
  keeping = keeps p w.situation.setting

  -- the set has no mark behind the words that are kept
  pub kept_below : (marks : ℕ) → FoundOn p table rows k (length w.clause.c.body) new marks → (q : ℕ) → InSet new q → q < 16 * kept_set
  kept_below marks on q h =
      omega (
        arith,
        few_masks words dir table heads since rows k w kept keeping few (kept_set * k) (kept_set * k + kept_set) refl refl,
        mark_below words dir table heads since rows k w 0 rows q (on.result q h),
      )

  module _ (buckets : List ℕ) (number room n' : ℕ) (table' buckets' : List ℕ)
      (step : Stepped (Given p (keys_of table rows)) number room n table buckets
      (HeadGives p (keys_of table known) (keys_of table rows) k (between kept (kept_set * k) (kept_set * k + kept_set)) new) n' table' buckets') where
    -- with what was there, the step gives all that the clause ends in
    pub kept_stepped : Writable table buckets n room → Stepped (Given p (keys_of table rows)) number room n table buckets (WithHead p (keys_of table since) (keys_of table rows) k) n' table' buckets'
    kept_stepped writable =
        stepped_must (Given p (keys_of table rows)) number room n n' table buckets table' buckets' _ _
        (known_ends words dir table heads since rows k w kept keeping few (kept_set * k) (kept_set * k + kept_set) refl refl known early.1 found new marked unkept early.0)
        (stepped_then (Given p (keys_of table rows)) number room n n n' table buckets table buckets table' buckets' _ _
        (grew_none (Given p (keys_of table rows)) number room n table buckets (λ key. Memᴰ key (keys_of table n)) writable (λ key m. m)) step)

    -- and the new marks are kept, and the rows before it are known
    pub kept_after : rows ≤ n → n' ≤ room → (kept' : List ℕ) → Gained (InSet new) (kept_set * k) kept_set kept kept' → (rows' : ℕ) → rows' ≡ rows → KeepsMarks words dir table' (set kept' (kept_set * things + k) rows') rows n'
    kept_after l within kept' gained rows' e =
        let g = stepped_within (Given p (keys_of table rows)) number room n n' table buckets table' buckets' _ step within in
        keeps_marks table' (set kept' (kept_set * things + k) rows') rows n' w.situation.setting
        (marks_stay w.situation.setting table table' (set kept' (kept_set * things + k) rows') rows (keys_of table' n') (keys_of table' n') (λ m b. keys_stay table table' n m (omega arith) g.same_rows) (λ key h. h)
        (rw e (known_keeps words dir table heads since rows k w kept keeping few (kept_set * k) (kept_set * k + kept_set) refl refl known early.1 found new marked unkept kept' (keys_of table' n') gained (behind_keeps _ _ _ g.behind) g.all)))
