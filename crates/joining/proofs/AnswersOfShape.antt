-- The answers of one shape's rows, newest first: each row gives one answer, a new row to the front where it is not listed, an older one to the back, and the walk goes on to the row before.
use Prim.Native.Nat.{ℕ, ◌+◌, ◌*◌, ◌-◌, ◌≤◌, ◌<◌}
use native.Mathlib.Omega.{arith}
use native.Mathlib.Decide.{dec_lt, ℕ_discrete}
use mathlib.Core.Path.{◌≡◌, sym, ◌∙◌}
use mathlib.Core.Bool.{true, false}
use mathlib.Core.Logic.{◌⊎◌, inl, inr, ⊎_elim, ◌↔◌}
use mathlib.Core.List.{List}
use lib.ListN.{length, set}
use Rattle.terms.specs.Term.{Term}
use Rattle.terms.proofs.Masks.{marks_unique}
use Rattle.marks.specs.Passing.{MarkedIn}
use Rattle.program.specs.Program.{Program}
use Rattle.program.specs.Limits.{row_size, masks}
use Rattle.rows.specs.Rows.{slot_at, mask_at, before_at}
use Rattle.rows.specs.Chains.{Latest}
use Rattle.rows.specs.MaskSet.{Inserted}
use Rattle.table.specs.Keys.{first_solution}
use Rattle.joining.specs.Answers.{Passes}
use Rattle.joining.specs.AnswerSteps.{Own, Sided, ShapeThere, GivenFrom, Walking}
use Rattle.joining.proofs.AnswerSides.{sided_for, room_left, sided_older, sided_there, sided_new}

-- a row passes one mask
pub passes_once : (table sets : List ℕ) (here there r q m : ℕ) → Passes table sets here there r q → Passes table sets here there r m → q ≡ m
passes_once table sets here there r q m h h' = marks_unique (MarkedIn sets 0 (mask_at table r) here 16 0 there) q m h h'

-- a walk by other names of where it stands
pub walking_as : {p : Program} {A : Term} {k s rows : ℕ} {table sets : List ℕ} {here there from since : ℕ} {seen seen' answers answers' : List ℕ} {fresh fresh' older older' link link' : ℕ}
    → link ≡ link' → seen ≡ seen' → answers ≡ answers' → fresh ≡ fresh' → older ≡ older' → Walking p A k s rows table sets here there from since seen' answers' fresh' older' link'
    → Walking p A k s rows table sets here there from since seen answers fresh older link
walking_as l s a f o k = rw l (rw s (rw a (rw f (rw o k))))

module _ {p : Program} {A : Term} {k s rows : ℕ} {table sets : List ℕ} {here there newest from since : ℕ} {seen₀ answers₀ : List ℕ} {fresh₀ older₀ : ℕ}
    (w : ShapeThere p A k s rows table seen₀ answers₀ newest from since fresh₀ older₀) where
  pub walking_begins : Walking p A k s rows table sets here there from since seen₀ answers₀ fresh₀ older₀ newest
  walking_begins =
      record {
        within = w.latest.within;
        own = w.latest.own;
        sided = sided_for (λ r q. (inl, ⊎_elim (λ a. a) (λ g. absurd (w.latest.last r g.0 g.1.early g.1.its_slot)))) w.sided;
      }

  module _ {seen answers : List ℕ} {fresh older link : ℕ} (k' : Walking p A k s rows table sets here there from since seen answers fresh older link) (h : from < link) where
    abbrev row : ℕ
    row = link - 1

    abbrev next : ℕ
    next = before_at table row

    row_there : row < rows
    row_there = omega (arith, k'.within)

    pub row_read : row_size * row + 4 < length table
    row_read = omega (arith, row_there, w.fits)

    slot_is : slot_at table row ≡ first_solution + s
    slot_is = k'.own row (omega arith)

    before : Latest (slot_at table) (slot_at table row) row next
    before = w.links row row_there

    pub next_falls : next < link
    next_falls = omega (arith, before.within)

    mine : Own table s from rows row
    mine = record { late = omega arith; early = row_there; its_slot = slot_is }

    -- the row gave no answer yet
    unused : (q : ℕ) → GivenFrom p A k s rows table sets here there from link row q → ⊥
    unused q (inl (t, l, (_, _, o, _))) =
        let e : first_solution + t ≡ first_solution + s = sym o.its_slot ∙ slot_is in
        omega (arith, w.behind)
    unused q (inr (l, _, _)) = omega arith

    pub room : fresh < older
    room = room_left k'.sided w.most row_there unused

    module _ {m : ℕ} (passes : Passes table sets here there row m) (small : m < masks) where
      -- from the next link on there is this row more
      grown : (r q : ℕ) → (GivenFrom p A k s rows table sets here there from link r q ⊎ ((r ≡ row) × (q ≡ m))) ↔ GivenFrom p A k s rows table sets here there from next r q
      grown r q = (to, ⊎_elim (λ a. inl (inl a)) (λ g. at g.0 g.1 g.2 (dec_lt r row) (ℕ_discrete r row)))
        where
          to : GivenFrom p A k s rows table sets here there from link r q ⊎ ((r ≡ row) × (q ≡ m)) → GivenFrom p A k s rows table sets here there from next r q
          to (inl (inl a)) = inl a
          to (inl (inr (l, o, g))) = inr (omega (arith, next_falls), o, g)
          to (inr (e, e')) = inr (omega (arith, before.within), rw e mine, rw (e, e') passes)

          at : next ≤ r → Own table s from rows r → Passes table sets here there r q → Dec (r < row) → Dec (r ≡ row)
              → GivenFrom p A k s rows table sets here there from link r q ⊎ ((r ≡ row) × (q ≡ m))
          at l o g (yes b) _ = absurd (before.last r l b (o.its_slot ∙ sym slot_is))
          at l o g (no n) (yes e) = inr (e, passes_once table sets here there row q m (rw e at g) passes)
          at l o g (no n) (no d) = inl (inr (omega arith, o, g))

      goes_on : {seen' answers' : List ℕ} {fresh' older' : ℕ}
          → Sided (λ r q. GivenFrom p A k s rows table sets here there from link r q ⊎ ((r ≡ row) × (q ≡ m))) since rows seen' answers' fresh' older'
          → Walking p A k s rows table sets here there from since seen' answers' fresh' older' next
      goes_on d =
          record {
            within = omega (arith, next_falls, k'.within);
            own = λ r e. before.own r e ∙ slot_is;
            sided = sided_for grown d;
          }

      -- an older row
      pub walking_older : row < since → Walking p A k s rows table sets here there from since seen (set answers (older - 1) m) fresh (older - 1) next
      walking_older old = goes_on (sided_older k'.sided w.most row_there unused small old)

      -- a new row, whose answer was listed before
      pub walking_there : {seen' : List ℕ} → since ≤ row → length seen' ≡ length seen → Inserted seen seen' m false
          → Walking p A k s rows table sets here there from since seen' answers fresh older next
      walking_there new size i = goes_on (sided_there k'.sided w.most row_there unused small new size i)

      -- a new row, whose answer is new
      pub walking_new : {seen' : List ℕ} → since ≤ row → length seen' ≡ length seen → Inserted seen seen' m true
          → Walking p A k s rows table sets here there from since seen' (set answers fresh m) (fresh + 1) older next
      walking_new new size i = goes_on (sided_new k'.sided w.most row_there unused small new size i)

  -- the rest of the chain lies before `from`
  pub walking_ends : {seen answers : List ℕ} {fresh older link : ℕ} → Walking p A k s rows table sets here there from since seen answers fresh older link → link ≤ from
      → Sided (GivenFrom p A k s rows table sets here there from 0) since rows seen answers fresh older
  walking_ends k' h =
      sided_for (λ r q. (⊎_elim inl (λ g. inr (omega arith, g.1, g.2)), ⊎_elim inl (λ g. inr (omega (arith, g.1.late), g.1, g.2)))) k'.sided
