-- The promise of the mode table, as `PromiseLaws` and `Tables` show it for any analysis that computes.
use Prim.Native.Nat.{ℕ, suc, ◌<◌, ◌-◌, ◌*◌}
use native.Mathlib.Decide.{ℕ_discrete}
use native.Mathlib.Omega.{arith}
use mathlib.Core.Path.{◌≡◌, refl}
use mathlib.Core.Logic.{◌↔◌}
use mathlib.Core.List.{List, ◌++◌, Memᴰ}
use lib.ListN.{length, replicate}
use Rattle.marks.specs.Modes.{modes}
use Rattle.program.specs.Program.{Program}
use Rattle.program.specs.Reply.{accepted, no_room, withdrawn, done}
use Rattle.program.specs.Faults.{sound, faults}
use Rattle.program.specs.declared.reply.Reply.{Reply}
use Rattle.program.specs.Limits.{row_size}
use Rattle.program.proofs.FaultNumbers.{fault_number}
use Rattle.table.specs.Rules.{Row, call, cont, solution, Row-discrete}
use Rattle.table.specs.Analysis.{Before}
use Rattle.table.specs.Table.{row_words, mode_analysis, Entry, entry_words, table_words, Ascending, room_in, TableOf, MoreThan, Promise}
use Rattle.table.proofs.RuleLaws.{gives_finitary}
use Rattle.table.proofs.Computed.{given, rows_at}
use Rattle.table.proofs.ComputedLaws.{given_all}
use Rattle.table.proofs.ModesComputed.{modes_lists}
use Rattle.table.proofs.Tables.{Computes, one_table, exceeds_length, computed_table, computed_is_table}
use Rattle.table.proofs.Ordering.{ascends_append, all_words_append, all_words_length}
use Rattle.table.proofs.PromiseLaws.{accepted_is_table, refusal_zeros, other_never, one_reply, no_room_exceeds, some_reply}

-- a row is read back from its words
pub row_words_same : (r r' : Row ℕ) → row_words r ≡ row_words r' → r ≡ r'
row_words_same (call s M) (call s' M') e = cc
row_words_same (call s M) (cont n i M') e = absurd (let z : ◌≡◌ {A = ℕ} 1 2 = cc in omega arith)
row_words_same (call s M) (solution s' M') e = absurd (let z : ◌≡◌ {A = ℕ} 1 3 = cc in omega arith)
row_words_same (cont n i M) (call s' M') e = absurd (let z : ◌≡◌ {A = ℕ} 2 1 = cc in omega arith)
row_words_same (cont n i M) (cont n' i' M') e = cc
row_words_same (cont n i M) (solution s' M') e = absurd (let z : ◌≡◌ {A = ℕ} 2 3 = cc in omega arith)
row_words_same (solution s M) (call s' M') e = absurd (let z : ◌≡◌ {A = ℕ} 3 1 = cc in omega arith)
row_words_same (solution s M) (cont n i M') e = absurd (let z : ◌≡◌ {A = ℕ} 3 2 = cc in omega arith)
row_words_same (solution s M) (solution s' M') e = cc

pub row_words_length : (row : Row ℕ) → suc (length (row_words row)) ≡ row_size
row_words_length (call s M) = refl
row_words_length (cont n i M) = refl
row_words_length (solution s M) = refl

pub table_words_length : (es : List Entry) → length (table_words es) ≡ row_size * length es
table_words_length = all_words_length row_words row_words_length row_words_same

pub table_words_append : (es fs : List Entry) → table_words (es ++ fs) ≡ table_words es ++ table_words fs
table_words_append = all_words_append row_words

pub ascending_append : (es fs : List Entry) → Ascending es → Ascending fs
    → ((e f : Entry) → Memᴰ e es → Memᴰ f fs → Before (entry_words e) (entry_words f)) → Ascending (es ++ fs)
ascending_append = ascends_append row_words

abbrev pub modes_computes : (p : Program) → Computes (mode_analysis p)
modes_computes p =
    record {
      finitary = gives_finitary modes p;
      same = Row-discrete ℕ_discrete modes_lists.same;
      given = given modes modes_lists p;
      given_all = given_all modes modes_lists p;
      sized = row_words_length;
      one_row = row_words_same;
    }

module _ (p : Program) where
  pub table_once : (es fs : List Entry) → TableOf p es → TableOf p fs → es ≡ fs
  table_once = one_table (mode_analysis p)

  -- the table of a small program is computed: that of round k, where round k + 1 computes to the same rows
  abbrev pub table_at : ℕ → List Entry
  table_at = computed_table (mode_analysis p) (modes_computes p)

  pub computed_table_law : (k : ℕ) (entries : List Entry) → rows_at modes modes_lists p p.grounded (suc k) ≡ rows_at modes modes_lists p p.grounded k → table_at k ≡ entries → TableOf p entries
  computed_table_law = computed_is_table (mode_analysis p) (modes_computes p)

  pub more_than_length : (entries : List Entry) → TableOf p entries → (n : ℕ) → MoreThan p n ↔ (n < length entries)
  more_than_length = exceeds_length (mode_analysis p) (modes_computes p)

module _ (words : List ℕ) (size : ℕ) where
  pub promise_unique : (r r' : Reply) (t t' : List ℕ) → Promise words size r t → Promise words size r' t' → (r ≡ r') × (t ≡ t')
  promise_unique = one_reply mode_analysis (faults words) size modes_computes

  pub promise_met : (r : Reply) × (t : List ℕ) × Promise words size r t
  promise_met = some_reply mode_analysis (faults words) size modes_computes

  pub no_room_more : (r : Reply) (t : List ℕ) (p : Program) → faults words ≡ sound p → Promise words size r t → (r.number ≡ no_room) ↔ MoreThan p (room_in size)
  no_room_more r t p says = no_room_exceeds mode_analysis (faults words) size modes_computes p says r t

  pub accepted_table : (r : Reply) (t : List ℕ) → Promise words size r t → r.number ≡ accepted
      → (p : Program) × (entries : List Entry) × (faults words ≡ sound p) × TableOf p entries × (r ≡ done (length entries))
      × (t ≡ table_words entries ++ replicate (size - row_size * length entries) 0)
  accepted_table = accepted_is_table mode_analysis (faults words) size (λ n q f e. omega (arith, fault_number words n q f))

  pub accepted_listed : (r : Reply) (t : List ℕ) → Promise words size r t → r.number ≡ accepted
      → (p : Program) × (entries : List Entry) × (faults words ≡ sound p) × TableOf p entries × (r ≡ done (length entries))
  accepted_listed r t h d = let (p, entries, f, rows, e, z) = accepted_table r t h d in (p, entries, f, rows, e)

  pub refused_zeros : (r : Reply) (t : List ℕ) → Promise words size r t → (r.number ≡ accepted → ⊥) → (t ≡ replicate size 0) × (r.count ≡ 0)
  refused_zeros = refusal_zeros mode_analysis (faults words) size

  pub never_withdrawn : (r : Reply) (t : List ℕ) → Promise words size r t → r.number ≡ withdrawn → ⊥
  never_withdrawn = other_never mode_analysis (faults words) size withdrawn (λ n q f e. omega (arith, fault_number words n q f)) (λ e. omega arith) (λ e. omega arith)
