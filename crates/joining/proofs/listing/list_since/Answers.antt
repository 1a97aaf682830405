-- `list_since` meets its contract: behind the fresh answers, of the rows from `since` on, stand those of the older rows. Assumes nothing.
use Rattle.joining.proofs.PlaceAnswers.{listed_from}
use Rattle.joining.proofs.listing.list_since.Goals as goal

pub settle-all-requires : goal.settle-all-requires
settle-all-requires c = let parted = c.answers_to-sides.ensures c.requires.situation c.requires.body in
    record { listing = parted.front.listing; room = parted.room; most = parted.most }

pub returns : goal.returns
returns c = let found = c.settle-all.ensures in
    (found.listing, found.more, λ w b. listed_from w.p _ b.A _ _ _ (c.answers_to-sides.ensures w b) found w.chains.new c.requires.ordered)
