-- Demand 3 for the words that the analysis leaves: the rows that stand in an accepted table cover every run, and "ground" can be read off them.
use Prim.Native.Nat.{ℕ, ◌*◌, ◌-◌}
use mathlib.Core.Path.{◌≡◌}
use mathlib.Core.List.{List, ◌++◌}
use lib.ListN.{length, replicate}
use Rattle.marks.specs.Modes.{modes}
use Rattle.program.specs.Program.{Program}
use Rattle.program.specs.Faults.{faults, sound}
use Rattle.program.specs.Reply.{accepted, done}
use Rattle.program.specs.declared.reply.Reply.{Reply}
use Rattle.program.specs.Limits.{row_size}
use Rattle.table.specs.Rules.{Row, call}
use Rattle.table.specs.Rounds.{Least}
use Rattle.table.specs.Table.{mode_analysis, Entry, table_words, TableOf, Promise}
use Rattle.table.proofs.Tables.{stands_least}
use Rattle.table.proofs.Promise.{modes_computes, accepted_table}
use Rattle.runs.specs.TableRows.{StandsIn, Trusted}
use Rattle.runs.proofs.TableCovers.{covers_within}
use Rattle.runs.proofs.AcceptedRuns.{accepted_covers_runs, accepted_ground_at_calls}

-- a table of the least set is to be trusted
table_trusted : (words : List ℕ) (reply : Reply) (table rest : List ℕ) (p : Program) (entries : List Entry) → faults words ≡ sound p → TableOf p entries
    → reply ≡ done (length entries) → table ≡ table_words entries ++ rest → Trusted words reply table
table_trusted words reply table rest p entries f t e z =
    record {
      p = p;
      says = f;
      rows = λ row. (from row, there row);
      covers = covers_within modes p p.grounded (Least modes p p.grounded) (StandsIn reply.count table) there (accepted_covers_runs words p f);
      ground_at_calls = λ s S at v occ every. accepted_ground_at_calls words p f s S at v occ (λ M least. every M (there (call s M) least));
    }
  where
    there : (row : Row ℕ) → Least modes p p.grounded row → StandsIn reply.count table row
    there row least = rw e (rw z ((stands_least (mode_analysis p) (modes_computes p) entries rest t row).1 least))

    from : (row : Row ℕ) → StandsIn reply.count table row → Least modes p p.grounded row
    from row stands = (stands_least (mode_analysis p) (modes_computes p) entries rest t row).0 (rw z at (rw e at stands))

-- what the analysis promises is to be trusted
pub promise_trusted : (words : List ℕ) (size : ℕ) (reply : Reply) (table : List ℕ) → Promise words size reply table → reply.number ≡ accepted → Trusted words reply table
promise_trusted words size reply table h d =
    let (p, entries, f, t, e, z) = accepted_table words size reply table h d in
    table_trusted words reply table (replicate (size - row_size * length entries) 0) p entries f t e z
