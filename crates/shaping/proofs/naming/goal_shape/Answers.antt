-- `goal_shape` meets its contract: the goal's shape is the first. Assumes nothing.
use Rattle.shaping.proofs.ShapesWalk.{goal_at, goal_size, goal_asked, goal_found}
use Rattle.shaping.proofs.naming.goal_shape.Goals as goal

pub number-requires : goal.number-requires
number-requires c = let W = c.args.words.now in let a = c.requires.0 in
    rw (c.from.ensures, c.from-2.ensures, goal_at W a _ _ c.requires.1 c.clear.ensures, goal_size W a _ _ c.requires.1 c.clear.ensures) (goal_asked W a _ _ c.requires.1 c.clear.ensures)

pub returns : goal.returns
returns c = let W = c.args.words.now in let a = c.requires.0 in let q = c.clear.ensures in
    let n = rw (c.from.ensures, c.from-2.ensures, goal_at W a _ _ c.requires.1 q, goal_size W a _ _ c.requires.1 q) at c.number.ensures in
    goal_found W a _ _ c.requires.1 q _ _ (n (goal_asked W a _ _ c.requires.1 q))
