-- "Show these shut out": no wrong analysis of `Wrong` keeps the promise on *Legs* and *Late call*, whatever analysis it goes wrong over; and `no_other` shuts out all the rest.
-- The idea: the promise has one reply and one table for each of the two, and a wrong one's are other.
use Prim.Native.Nat.{ℕ, suc, ◌≤◌, min}
use native.Mathlib.Omega.{arith}
use mathlib.Core.Path.{◌≡◌, refl, sym, ap, ◌∙◌}
use mathlib.Core.List.{List}
use lib.ListN.{length, get_or}
use Rattle.marks.specs.Modes.{modes}
use Rattle.program.specs.Program.{Program}
use Rattle.program.specs.Reply.{accepted}
use Rattle.program.specs.Faults.{sound, faults}
use Rattle.program.specs.declared.reply.Reply.{Reply}
use Rattle.table.specs.Rules.{call, solution}
use Rattle.table.proofs.Promise.{promise_unique, promise_met}
use Rattle.runs.specs.Cover.{CoversRuns}
use Rattle.runs.specs.TableRows.{StandsIn}
use Rattle.demands.specs.Wrong.{Analyser, Keeps, AllRows, round_of, mask_of, made_up, refusing, constant, writing_nothing, all_in_round_one, invented_count, invented_round, everything_any}
use Rattle.demands.specs.SamplePrograms.{legs_words, late_words}
use Rattle.demands.proofs.Demand3.{every_run_covered}
use Rattle.demands.proofs.WrongTables.{lent, legs_left, late_left, on_legs, on_late, each_on_legs, each_on_late, each_changed, stands_any, covered_any}

-- the promise can be kept on all words with every table lent
pub right_one : (a : Analyser) × ((words lent : List ℕ) → Keeps a words lent)
right_one = (
  λ words lent. record { reply = (promise_met words (length lent)).0; table = (promise_met words (length lent)).1 },
  λ words lent. (promise_met words (length lent)).2,
)

-- and in one way only: whatever another analysis does otherwise, it does not keep it
pub no_other : (a b : Analyser) (words lent : List ℕ) → Keeps a words lent → Keeps b words lent
    → ((a words lent).reply ≡ (b words lent).reply) × ((a words lent).table ≡ (b words lent).table)
no_other a b words lent keeps keeps' = promise_unique words (length lent) _ _ _ _ keeps keeps'

-- "refusing always"
pub refusing_shut_out : (number place : List ℕ → List ℕ → ℕ) → Keeps (refusing number place) legs_words lent → ⊥
refusing_shut_out number place keeps =
    let e : suc (number legs_words lent) ≡ accepted = ap (λ (r : Reply). r.number) (on_legs (refusing number place) keeps).0 in omega arith

-- "one constant table"
pub constant_shut_out : (reply : List ℕ → List ℕ → Reply) (table : List ℕ)
    → Keeps (constant reply table) legs_words lent → Keeps (constant reply table) late_words lent → ⊥
constant_shut_out reply table keeps keeps' =
    let e : legs_left ≡ late_left = sym (on_legs (constant reply table) keeps).1 ∙ (on_late (constant reply table) keeps').1 in
    let d : ◌≡◌ {A = ℕ} 1 0 = ap (λ (ws : List ℕ). get_or ws 9 0) e in omega arith

-- "writing nothing"
pub writing_nothing_shut_out : (reply : List ℕ → List ℕ → Reply) → Keeps (writing_nothing reply) legs_words lent → ⊥
writing_nothing_shut_out reply keeps =
    let d : ◌≡◌ {A = ℕ} 0 1 = ap (λ (ws : List ℕ). get_or ws 1 0) (on_legs (writing_nothing reply) keeps).1 in omega arith

-- "finding all in round 1 and idling later": any analysis that leaves no round above 1, in whatever order its rows stand
pub all_in_round_one_shut_out : (a : Analyser) → AllRows (λ row. round_of row ≤ 1) (a legs_words lent) → Keeps a legs_words lent → ⊥
all_in_round_one_shut_out a each keeps = let d : ◌≤◌ 2 1 = (each_on_legs (λ row. round_of row ≤ 1) a each keeps).1.1.1.0 in omega arith

pub lowered_shut_out : (a : Analyser) → Keeps (all_in_round_one a) legs_words lent → ⊥
lowered_shut_out a =
    all_in_round_one_shut_out (all_in_round_one a)
    (each_changed (λ row. round_of row ≤ 1) (λ row. min (round_of row) 1) mask_of (λ words rest. omega arith) (a legs_words lent).reply.count (a legs_words lent).table)

-- "an invented row count": no function of the room is right for both
pub invented_count_shut_out : (f : ℕ → ℕ) (a : Analyser)
    → Keeps (invented_count f a) legs_words lent → Keeps (invented_count f a) late_words lent → ⊥
invented_count_shut_out f a keeps keeps' =
    let d : f 50 ≡ 7 = ap (λ (r : Reply). r.count) (on_legs (invented_count f a) keeps).0 in
    let e : f 50 ≡ 9 = ap (λ (r : Reply). r.count) (on_late (invented_count f a) keeps').0 in omega arith

-- "an invented .. round": no function of a row is right for both; the goal's solution with mask 1 comes in round 3 of *Legs* and in round 4 of *Late call*
pub made_up_rounds_shut_out : (f : ℕ → ℕ → ℕ → ℕ → ℕ) (a : Analyser)
    → AllRows (λ row. round_of row ≡ made_up f row) (a legs_words lent) → AllRows (λ row. round_of row ≡ made_up f row) (a late_words lent)
    → Keeps a legs_words lent → Keeps a late_words lent → ⊥
made_up_rounds_shut_out f a each each' keeps keeps' =
    let d : 3 ≡ f 3 0 0 1 = (each_on_legs (λ row. round_of row ≡ made_up f row) a each keeps).1.1.1.1.1.0 in
    let e : 4 ≡ f 3 0 0 1 = (each_on_late (λ row. round_of row ≡ made_up f row) a each' keeps').1.1.1.1.1.1.0 in
    omega arith

pub invented_round_shut_out : (f : ℕ → ℕ → ℕ → ℕ → ℕ) (a : Analyser)
    → Keeps (invented_round f a) legs_words lent → Keeps (invented_round f a) late_words lent → ⊥
invented_round_shut_out f a = made_up_rounds_shut_out f (invented_round f a) (invented legs_words) (invented late_words)
  where
    invented : (words : List ℕ) → AllRows (λ row. round_of row ≡ made_up f row) (invented_round f a words lent)
    invented words =
        each_changed (λ row. round_of row ≡ made_up f row) (made_up f) mask_of (λ words rest. refl) (a words lent).reply.count (a words lent).table

-- "marking everything any": any analysis that leaves no mark
pub no_marks_shut_out : (a : Analyser) → AllRows (λ row. mask_of row ≡ 0) (a legs_words lent) → Keeps a legs_words lent → ⊥
no_marks_shut_out a each keeps = let d : ◌≡◌ {A = ℕ} 1 0 = (each_on_legs (λ row. mask_of row ≡ 0) a each keeps).0 in omega arith

pub everything_any_shut_out : (a : Analyser) → Keeps (everything_any a) legs_words lent → ⊥
everything_any_shut_out a =
    no_marks_shut_out (everything_any a)
    (each_changed (λ row. mask_of row ≡ 0) round_of (λ row. 0) (λ words rest. refl) (a legs_words lent).reply.count (a legs_words lent).table)

-- "which would satisfy demand 3's sentence by itself": over an analysis that keeps the promise, its table covers every run
pub everything_any_covers_runs : (a : Analyser) (words lent : List ℕ) (p : Program) → faults words ≡ sound p
    → Keeps a words lent → (a words lent).reply.number ≡ accepted
    → CoversRuns modes p p.grounded (StandsIn (a words lent).reply.count (everything_any a words lent).table)
everything_any_covers_runs a words lent p says keeps number-0 =
    let count = (a words lent).reply.count in
    let table = (a words lent).table in
    let covers = every_run_covered words p says (length lent) (a words lent).reply table keeps number-0 in
    record {
      calls = λ n s A called. let (M, row, by) = covers.calls n s A called in (0, stands_any count table (call s M) row, covered_any p s M A by);
      solutions = λ n s A solved. let (M, row, by) = covers.solutions n s A solved in (0, stands_any count table (solution s M) row, covered_any p s M A by);
    }
