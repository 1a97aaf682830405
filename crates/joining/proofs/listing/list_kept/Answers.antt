-- `list_kept` meets its contract: what rows that are not known yet give is put beside what is kept, and that is all. Assumes nothing.
use Prim.Native.Nat.{◌≤◌}
use native.Mathlib.Omega.{arith}
use mathlib.Core.Path.{◌∙◌, ap}
use lib.ListN.{length-set}
use Rattle.joining.specs.KeptAnswers.{answered_of}
use Rattle.joining.proofs.PlaceAnswers.{answers_as, answered_as, listing_none, listing_within}
use Rattle.joining.proofs.KeptPlaces.{answer_own, keeps_answers, keeping_answered, known_answered, answered_new, answered_recalled}
use Rattle.joining.proofs.listing.list_kept.Goals as goal
use Rattle.joining.proofs.listing.list_kept.Goals.{then-standing-newest, else-standing-newest}

pub bounds-answered-at : goal.bounds-answered-at
bounds-answered-at c = omega (arith, c.requires.0.near, (c.requires.3 c.requires.0.situation.p c.requires.0.situation.setting).sets.every_word)

pub list_since-counts-requires : goal.list_since-counts-requires
list_since-counts-requires c = let asked = c.requires.0 in
    record { situation = asked.situation; body = asked.body; ordered = omega (arith, c.min-known.ensures); listing = listing_none _ _ c.requires.1 c.requires.2 }

pub keep_answers-requires : goal.keep_answers-requires
keep_answers-requires c = let pre = c.requires in
    record {
      A = pre.0.body.A;
      kept = pre.0.kept pre.0.situation pre.0.body;
      size = (pre.3 pre.0.situation.p pre.0.situation.setting).sets.every_word;
    }

pub bounds-answered-at-2 : goal.bounds-answered-at-2
bounds-answered-at-2 c = omega (arith, c.requires.0.near, c.keep_answers.ensures.as_long, (c.requires.3 c.requires.0.situation.p c.requires.0.situation.setting).sets.every_word)

pub recall_answers-requires : goal.recall_answers-requires
recall_answers-requires c = let pre = c.requires in
    let w = pre.0.situation in
    let b = pre.0.body in
    let (listing, _, listed) = c.list_since-counts.ensures in
    record {
      A = b.A;
      kept = pre.0.kept w b;
      listing = listing;
      own = λ N m. answer_own w.p c.args.standing.now.table.now b.A N (((listed w b).are N).0 m);
      size = rw length-set (c.keep_answers.ensures.as_long ∙ (pre.3 w.p w.setting).sets.every_word);
    }

pub returns : goal.returns
returns c = let pre = c.requires in
    let (listing, few, listed) = c.list_since-counts.ensures in
    let early : c.min-known.result ≤ answered_of c.args.answered.now c.args.j = omega (arith, c.min-known.ensures, c.from.ensures) in (
      c.forget.ensures,
      record {
        there = (elim c.if-standing-newest.branch [
          | then-standing-newest v ↦ answers_as v.answers-is (ap (λ x. x.fresh) v.counts-is) (ap (λ x. x.all) v.counts-is) (record { few = omega (arith, few, v.recall_answers.ensures.more); most = listing_within v.recall_answers.ensures.listing })
          | else-standing-newest v ↦ answers_as v.answers-is (ap (λ x. x.fresh) v.counts-is) (ap (λ x. x.all) v.counts-is) (record { few = few; most = listing_within listing })
        ]);
        answered = λ w b.
            let kept = pre.0.kept w b in
            elim c.if-standing-newest.branch [
              | then-standing-newest v ↦ answered_as v.answers-is (ap (λ x. x.fresh) v.counts-is) (ap (λ x. x.all) v.counts-is) (answered_recalled w b kept _ _ _ (listed w b) few
                  (keeping_answered w b kept (pre.3 w.p w.setting) early (listed w b) c.keep_answers.ensures c.narrow.ensures)
                  (known_answered w b kept (pre.3 w.p w.setting) early (listed w b) c.keep_answers.ensures c.narrow.ensures)
                  v.recall_answers.ensures)
              | else-standing-newest v ↦ answered_as v.answers-is (ap (λ x. x.fresh) v.counts-is) (ap (λ x. x.all) v.counts-is) (answered_new w b kept _ _ _ (listed w b) v.if-standing-newest.false)
            ];
      },
      let w = pre.0.situation in
          let b = pre.0.body in
          keeps_answers _ _ _ w.setting
          (keeping_answered w b (pre.0.kept w b) (pre.3 w.p w.setting) early (listed w b) c.keep_answers.ensures c.narrow.ensures),
    )
