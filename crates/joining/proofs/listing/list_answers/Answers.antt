-- `list_answers` meets its contract: an atom of few variables has its answers kept, any other makes them again. Assumes nothing.
use Rattle.joining.proofs.KeptPlaces.{few_vars}
use Rattle.joining.proofs.listing.list_answers.Goals as goal

pub list_kept-requires : goal.list_kept-requires
list_kept-requires c = let (asked, unseen, size, keeps) = c.requires in (
  record {
    situation = asked.situation;
    body = asked.body;
    near = c.if-j-lt-THINGS.true;
    kept = λ w b. few_vars w b (c.body_order-order.ensures (record { p = w.p; setting = w.setting; body = b })) c.if-order-le-ANSWER_VARS.true c.if-j-lt-THINGS.true;
  },
  unseen,
  size,
  keeps,
)
