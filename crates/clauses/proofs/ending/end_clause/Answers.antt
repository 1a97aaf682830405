-- `end_clause` meets its contract, whether the marks of the clause are kept or not. Assumes nothing.
use native.Mathlib.Omega.{arith}
use Rattle.clauses.proofs.ending.end_clause.Goals as goal

pub end_kept-requires : goal.end_kept-requires
end_kept-requires c = (c.requires.0, c.requires.1, omega (arith, c.from.ensures, c.if-from-le-KEPT_VARS.true), c.forget_notes.ensures _ _ _ _)

pub end_wide-requires : goal.end_wide-requires
end_wide-requires c = (c.requires.0, c.requires.1, c.forget_notes.ensures _ _ _ _)
