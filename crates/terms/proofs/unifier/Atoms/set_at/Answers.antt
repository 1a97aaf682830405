-- `set_at` meets its contract: a variable's cell has its own set, and the cells of another term are walked. Assumes nothing.
use Rattle.terms.proofs.RunVariables.{cells_enc}
use Rattle.terms.proofs.Standings.{set_alone, next_term, cell_at}
use Rattle.terms.proofs.unifier.Atoms.set_at.Goals as goal

pub cell_at-cell-requires : goal.cell_at-cell-requires
cell_at-cell-requires c = (cell_at c.args.self.now.functions.now c.args.self.now.a.now c.args.self.now.b.now c.args.place c.requires.2 c.requires.0).some

pub variable_at-requires : goal.variable_at-requires
variable_at-requires c = let k = cell_at c.args.self.now.functions.now c.args.self.now.a.now c.args.self.now.b.now c.args.place c.requires.2 c.requires.0 in
    (c.if-cell-ge-FIRST_VARIABLE.true, rw c.cell_at-cell.ensures k.small)

pub returns-then-cell-ge-FIRST_VARIABLE : goal.returns-then-cell-ge-FIRST_VARIABLE
returns-then-cell-ge-FIRST_VARIABLE c = set_alone c.args.self.now.functions.now c.args.self.now.a.now c.args.self.now.b.now c.args.sets.now c.args.place c.cell_at-cell.result
    c.variable_at.result c.requires.0 c.cell_at-cell.ensures c.if-cell-ge-FIRST_VARIABLE.true c.variable_at.ensures.0

pub union_of-requires : goal.union_of-requires
union_of-requires c = let F = c.args.self.now.functions.now in
    let n = next_term F c.args.self.now.a.now c.args.self.now.b.now c.args.place 0 c.requires.2 c.requires.0 in
    (rw (c.resolve.ensures, n.cut) (cells_enc F n.term n.keeps), c.base_of.ensures.1)
