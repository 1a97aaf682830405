-- `finish` meets its contract: the rows sorted and unpacked are the table of the program, with zeros behind it. Assumes nothing.
use Prim.Native.Nat.{ℕ, ◌-◌, ◌*◌, ◌<◌}
use native.Mathlib.Omega.{arith}
use mathlib.Core.Path.{◌≡◌, ap, ◌∙◌}
use mathlib.Core.List.{◌++◌}
use lib.ListN.{length, get_or, replicate}
use Rattle.program.specs.Limits.{row_size}
use Rattle.table.specs.Table.{table_words}
use Rattle.table.proofs.Promise.{table_words_length}
use Rattle.analysis.proofs.Replies.{zeros_behind}
use Rattle.analysis.proofs.LastRows.{last_packed, last_table, last_many}
use Rattle.analysis.proofs.analyse.finish.Goals as goal

pub unpack-requires : goal.unpack-requires
unpack-requires c = last_packed _ _ c.requires.p c.requires.setting _ _ c.requires.complete _ c.sort.ensures (λ i. (c.slice_known-2-1.given i).fits) (rw c.sort.auto.table c.requires.complete.fits)

pub returns : goal.returns
returns c = λ w.
    let table = c.args.table.now in
    let small : (i : ℕ) → get_or c.sort.new.table i 0 < 65536 = λ i. (c.slice_known-2-1.given i).fits in
    let packed = last_packed _ _ w.p w.setting _ _ w.complete _ c.sort.ensures small (rw c.sort.auto.table w.complete.fits) in
    let many = last_many _ _ w.p w.setting _ _ w.complete _ c.sort.ensures small in
    let size : length c.unpack.new.table ≡ length table = c.unpack.auto.table ∙ c.sort.auto.table in
    record {
      entries = packed.entries;
      table_of = last_table _ _ w.p w.setting _ _ w.complete _ c.sort.ensures small;
      many = many;
      words =
          zeros_behind (table_words packed.entries) _ _ _ _ (table_words_length packed.entries ∙ ap (λ (x : ℕ). row_size * x) many) (c.unpack.ensures packed)
          (omega (arith, size, w.complete.fits)) (c.fill.ensures.after (λ y e. e))
          ∙ ap (λ (x : ℕ). table_words packed.entries ++ replicate (x - row_size * c.args.rows) 0) size;
    }
