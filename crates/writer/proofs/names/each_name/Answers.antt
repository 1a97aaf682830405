-- `writer::names::each_name` meets its contract. The loop's invariant: the names from `i` on decide, and those before have their hashes. Assumes nothing.
use mathlib.Core.Path.{sym, ap, ◌∙◌}
use native.Mathlib.Omega.{arith}
use native.Mathlib.Numerals.{add-one}
use lib.ListN.{length-set}
use borrow.Author.Tests.{not-true, not-false}
use Rattle.text.specs.Name.{hash_of}
use Rattle.writer.specs.Names.{names_reply}
use Rattle.writer.proofs.NameChecks.{hashed_more, each_stops, each_goes_on}
use Rattle.writer.proofs.names.each_name.Goals as goal

pub returns-then-not-is_sound : goal.returns-then-not-is_sound
returns-then-not-is_sound c = let a = c.args in
    sym (ap names_reply (c.loop-i.invariant.3 ∙ each_stops a.names.now a.predicates c.loop-i.i a.symbols (omega arith) (sym (c.is_sound.ensures c.loop-i.invariant.2) ∙ not-true _ c.if-not-is_sound.true-raw)))

pub loop-i-preserved : goal.loop-i-preserved
loop-i-preserved c = let a = c.args in
    let i = c.loop-i.i in (
      omega arith,
      length-set c.loop-i.hashes i c.hash_of.result ∙ c.loop-i.invariant.1,
      hashed_more a.names.now c.loop-i.hashes i c.hash_of.result (omega arith) (c.hash_of.ensures ∙ ap hash_of c.name_at.ensures) c.loop-i.invariant.2,
      rw add-one (c.loop-i.invariant.3 ∙ each_goes_on a.names.now a.predicates i a.symbols (omega arith) (sym (c.is_sound.ensures c.loop-i.invariant.2) ∙ not-false _ c.if-not-is_sound.false-raw)),
    )
