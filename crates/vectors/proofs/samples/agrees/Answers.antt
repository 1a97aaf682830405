-- Nothing else than what is promised is printed.
use Rattle.std.proofs.Common.{take}
use Rattle.std.proofs.lemmas.Bool.Decides.{Decides-eqb}
use Rattle.std.proofs.lemmas.Slice.Eq.{slice_eq-Decides}
use Rattle.printing.proofs.PrintedOnce.{printed_unique}
use Rattle.vectors.proofs.samples.agrees.Goals as goal

pub returns : goal.returns
returns c =
    let p = c.print-end in
    let out = take p.result p.new.out in
    let same = slice_eq-Decides Decides-eqb out c.args.expected.now c.eq.result c.eq.ensures in
    (λ e. rw (same.0 e) at p.ensures.1, λ q. same.1 (printed_unique c.args.text.now out c.args.expected.now p.ensures.1 q))
