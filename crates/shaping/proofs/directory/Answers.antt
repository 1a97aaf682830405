-- `directory` meets its contract: places, lists and shapes, one after the other. Assumes nothing.
use Rattle.directory.proofs.PlacedLaws.{placed_kept}
use Rattle.shaping.proofs.Made.{directory_made}
use Rattle.shaping.proofs.directory.Goals as goal

pub shapes-requires : goal.shapes-requires
shapes-requires c = let l = c.lists.ensures in (c.requires.1, placed_kept _ c.requires.1 _ _ l.size l.kept c.places.ensures)

pub returns : goal.returns
returns c = directory_made _ c.requires.1 _ _ _ c.places.ensures c.lists.ensures c.shapes.ensures
