-- `list_anew` meets its contract: where a cont row is new the answers of all rows are listed, and otherwise those of the rows from `since` on.
-- Assumes nothing.
use native.Mathlib.Omega.{arith}
use Rattle.joining.proofs.PlaceAnswers.{listing_none, listing_within, all_answered}
use Rattle.joining.proofs.listing.list_anew.Goals as goal
use Rattle.joining.proofs.listing.list_anew.Goals.{then-standing-newest, else-standing-newest}

pub list_since-counts-requires : goal.list_since-counts-requires
list_since-counts-requires c = let asked = c.requires.0 in
    record {
      situation = asked.situation;
      body = asked.body;
      ordered = (elim c.if-standing-newest.branch [ then-standing-newest v ↦ omega (arith, v.from-is) | else-standing-newest v ↦ omega (arith, v.from-is) ]);
      listing = listing_none _ _ c.requires.1 c.requires.2;
    }

pub returns : goal.returns
returns c = let (listing, few, listed) = c.list_since-counts.ensures in (
  c.forget.ensures,
  record {
    there = record { few = few; most = listing_within listing };
    answered = λ w b. all_answered (listed w b) (λ late. (elim c.if-standing-newest.branch [ then-standing-newest v ↦ v.from-is | else-standing-newest v ↦ absurd (omega (arith, v.if-standing-newest.false)) ]));
  },
)
