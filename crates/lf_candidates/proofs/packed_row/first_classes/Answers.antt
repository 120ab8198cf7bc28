use Rattle.std.proofs.Common.{ap, ◌∙◌, arith}
use Rattle.std.proofs.lemmas.List.{take_all}
use Rattle.lf_candidates.specs.views.Packed.{first_classes}
use Rattle.lf_candidates.proofs.FirstClass.{row_length}
use Rattle.lf_candidates.proofs.PackedWords.{one_more}
use Rattle.lf_candidates.proofs.packed_row.first_classes.Goals as goal

pub loop-label-init : goal.loop-label-init
loop-label-init c =
    let row = c.args.row.now in
    let long = row_length c.args.universe.now row c.requires.shape in
    c.in_ok-push.ensures.items ∙ one_more row c.in_ok-firsts.firsts.items 0 c.in_ok-first_name.field-0 c.in_ok-firsts.ensures.items (omega (arith, long, c.requires.universe.listing.count)) c.in_ok-first_name.ensures

pub loop-label-preserved : goal.loop-label-preserved
loop-label-preserved c =
    let row = c.args.row.now in
    let long = row_length c.args.universe.now row c.requires.shape in
    c.in_ok-push-2.ensures.items ∙ one_more row c.loop-label.firsts.items c.loop-label.label c.first_held.result c.loop-label.invariant (omega (arith, long, c.loop-label-test.true, c.labels-label-end.ensures.count)) c.first_held.ensures

pub returns : goal.returns
returns c =
    let row = c.args.row.now in
    let long = row_length c.args.universe.now row c.requires.shape in
    c.loop-label.invariant ∙ ap first_classes (take_all c.loop-label.label row (omega (arith, long, c.loop-label-test.false, c.labels-label-end.ensures.count)))
