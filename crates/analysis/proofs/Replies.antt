-- The replies of the analysis: the fault that the scan finds, the directory, the room, and zeros behind the rows.
use Prim.Native.Nat.{ℕ, ◌-◌, ◌*◌, ◌/◌, ◌≤◌, ◌<◌}
use native.Mathlib.Omega.{arith}
use native.Mathlib.Nat.{min-le_left, min-le_right, le_refl}
use mathlib.Core.Path.{◌≡◌, refl, sym, ap, ◌∙◌}
use mathlib.Core.Logic.{inl, inr}
use mathlib.Core.List.{List, [], ◌++◌, append-nil}
use lib.ListN.{length, take, replicate, drop_of_length-le}
use lib.Seq.{take_at}
use borrow.Rule.Slice.PartMut.{put_mid, mid_of, post_of, Post-is, mid_len}
use Rattle.program.specs.Program.{Program}
use Rattle.program.specs.Faults.{sound, faults, reply_of}
use Rattle.program.specs.Reply.{done, replied, scanned}
use Rattle.program.specs.declared.reply.Fault.{Fault}
use Rattle.program.proofs.Checks.{checked_fault}
use Rattle.program.specs.Limits.{row_size}
use Rattle.std.proofs.Common.{Err}
use Rattle.directory.specs.Directory.{Directory}
use Rattle.table.specs.Promise.{faulty, listed}
use Rattle.table.specs.Table.{room_in, MoreThan, Promise}
use Rattle.steps.specs.Situation.{Setting}
use Rattle.rounds.specs.Rounds.{Complete, Finished}
use Rattle.analysis.specs.Finished.{InTable}

-- "The room in rows is the length over five, rounded down, but at most 4,096."
pub room_fits : (size : ℕ) → (room_in size ≤ 4096) × (row_size * room_in size ≤ size)
room_fits size = let l = min-le_left (size / row_size) 4096 in (min-le_right (size / row_size) 4096, omega arith)

-- "Every refusal zeroes all lent output."
pub refused_faulty : (words : List ℕ) (f : Fault) → scanned (Err f) ≡ reply_of (faults words) → (size : ℕ) (table : List ℕ) → table ≡ replicate size 0 → Promise words size (replied (Err f)) table
refused_faulty words f is size table zeros = faulty _ _ (checked_fault words f is) refl zeros

-- an accepted program with the directory that is made of it
pub setting_of : {words dir : List ℕ} {p : Program} → faults words ≡ sound p → ((q : Program) → faults words ≡ sound q → Directory words q dir) → Setting words dir p
setting_of {p = p} e directory = record { accepted = e; directory = directory p e }

-- words put behind a list that are zeros
pub zeros_behind : (P rest t ys : List ℕ) (a : ℕ) → length P ≡ a → t ≡ P ++ rest → a ≤ length t → ys ≡ replicate (length (mid_of a (length t - a) t)) 0
    → put_mid a (length t - a) t ys ≡ P ++ replicate (length t - a) 0
zeros_behind P rest t ys a e whole l zeros =
    let first : take a t ≡ P = ap (take a) whole ∙ take_at P rest a e in
    let none : post_of a (length t - a) t ≡ [] = Post-is a (length t) t l ∙ drop_of_length-le t (le_refl (length t)) in
    let many : length (mid_of a (length t - a) t) ≡ length t - a = mid_len a (length t) t (le_refl (length t)) in
    ap (λ (x : List ℕ). x ++ (ys ++ post_of a (length t - a) t)) first
    ∙ ap (λ (x : List ℕ). P ++ (ys ++ x)) none
    ∙ ap (λ (x : List ℕ). P ++ x) (append-nil ys)
    ∙ ap (λ (x : List ℕ). P ++ x) (zeros ∙ ap (λ (n : ℕ). replicate n 0) many)

-- rows past the room are more than it, others are complete
pub past_more : (p : Program) (room n : ℕ) (table : List ℕ) → Finished p room n table → room < n → MoreThan p room
past_more p room n table (inl (l, c)) h = absurd (omega arith)
past_more p room n table (inr (e, m)) h = m

pub within_complete : (p : Program) (room n : ℕ) (table : List ℕ) → Finished p room n table → n ≤ room → Complete p table n
within_complete p room n table (inl (l, c)) h = c
within_complete p room n table (inr (e, m)) h = absurd (omega arith)

-- "Accepted is number 0 with place 0", "a count of what was written"
pub table_listed : (words : List ℕ) (p : Program) → faults words ≡ sound p → (size rows : ℕ) (table : List ℕ) → rows ≤ room_in size → InTable p rows size table
    → Promise words size (done rows) table
table_listed words p accepted size rows table l t =
    listed p t.entries accepted t.table_of (rw t.many l) (ap done (sym t.many)) (rw t.many t.words)
