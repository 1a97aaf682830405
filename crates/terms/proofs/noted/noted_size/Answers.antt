-- `noted_size` meets its contract: a set of 32 variables has as many as it has ones. Assumes nothing.
use Rattle.std.proofs.Common.{rules}
use native.Mathlib.Omega.{arith}
use borrow.Author.Rules.{rules}
use lib.Count.{ones-le}
use Rattle.terms.specs.Store.{all_variables}
use Rattle.terms.proofs.CodedPlaces.{count_ones}
use Rattle.terms.proofs.noted.noted_size.Goals as goal

pub returns : goal.returns
returns c = (omega (arith, count_ones all_variables c.args.set (search rules)), omega (arith, ones-le all_variables c.args.set (search rules)))
