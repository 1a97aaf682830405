-- `written_lines::lines::put_query` meets its contract: the modes behind the atom say which of its variables are ground. Assumes nothing.
use Prim.Native.Nat.{ℕ, ◌+◌}
use mathlib.Core.Path.{ap, subst}
use mathlib.Core.List.{List}
use native.Mathlib.Omega.{arith}
use lib.ListN.{length}
use Rattle.terms.specs.Cells.{enc}
use Rattle.directory.proofs.GoalWalk.{goal_atom_from}
use Rattle.text.specs.Put.{Put}
use Rattle.text.proofs.Puts.{put_append}
use Rattle.text_lines.specs.Keyword.{query}
use Rattle.written_lines.specs.Tokens.{atom_tokens, line}
use Rattle.written_lines.proofs.AtomWalk.{query_count, query_within, query_modes}
use Rattle.written_lines.proofs.lines.put_query.Goals as goal

pub overflow_add-variables : goal.overflow_add-variables
overflow_add-variables c = let a = c.requires.0 in
    let e = c.atom_cells.ensures (goal_atom_from _ _ _ _ a) in
    omega (arith, e, query_count _ _ _ _ a (c.args.from.at + c.atom_cells.result) (ap (λ (n : ℕ). c.args.from.at + n) e), c.requires.1)

pub overflow_add-first : goal.overflow_add-first
overflow_add-first c = let a = c.requires.0 in
    omega (arith, query_count _ _ _ _ a (c.args.from.at + c.atom_cells.result) (ap (λ (n : ℕ). c.args.from.at + n) (c.atom_cells.ensures (goal_atom_from _ _ _ _ a))), c.requires.1)

pub offset_bounds-words-variables : goal.offset_bounds-words-variables
offset_bounds-words-variables c = let a = c.requires.0 in
    omega (arith, query_count _ _ _ _ a (c.args.from.at + c.atom_cells.result) (ap (λ (n : ℕ). c.args.from.at + n) (c.atom_cells.ensures (goal_atom_from _ _ _ _ a))), c.requires.1)

pub bounds-words-variables : goal.bounds-words-variables
bounds-words-variables c = let a = c.requires.0 in
    query_count _ _ _ _ a (c.args.from.at + c.atom_cells.result) (ap (λ (n : ℕ). c.args.from.at + n) (c.atom_cells.ensures (goal_atom_from _ _ _ _ a)))

pub overflow_add-last : goal.overflow_add-last
overflow_add-last c = let a = c.requires.0 in
    omega (arith, query_within _ _ _ _ a (c.args.from.at + c.atom_cells.result) (ap (λ (n : ℕ). c.args.from.at + n) (c.atom_cells.ensures (goal_atom_from _ _ _ _ a))), c.from.ensures, c.requires.1)

pub offset_bounds-words-first : goal.offset_bounds-words-first
offset_bounds-words-first c = let a = c.requires.0 in
    omega (arith, query_count _ _ _ _ a (c.args.from.at + c.atom_cells.result) (ap (λ (n : ℕ). c.args.from.at + n) (c.atom_cells.ensures (goal_atom_from _ _ _ _ a))), c.requires.1)

pub slice_bounds-put_atom-end : goal.slice_bounds-put_atom-end
slice_bounds-put_atom-end c = let a = c.requires.0 in
    omega (arith, query_within _ _ _ _ a (c.args.from.at + c.atom_cells.result) (ap (λ (n : ℕ). c.args.from.at + n) (c.atom_cells.ensures (goal_atom_from _ _ _ _ a))), c.from.ensures)

pub returns : goal.returns
returns c = let s = c.args in
    λ a.
    let e = ap (λ (n : ℕ). s.from.at + n) (c.atom_cells.ensures (goal_atom_from _ _ _ _ a)) in
    let w = (c.put_atom-walked.ensures (goal_atom_from _ _ _ _ a)).put in
    subst (λ (modes : List ℕ). Put (line query (atom_tokens s.symbols.now.names.now (length s.symbols.now.predicates.now) modes (enc a.goal))) s.out.now c.put_byte.new.out s.from.end c.put_byte.result)
    (query_modes _ _ _ _ a (s.from.at + c.atom_cells.result) e c.from.result c.from.ensures)
    (put_append (put_append c.put_bytes.ensures w) c.put_byte.ensures)
