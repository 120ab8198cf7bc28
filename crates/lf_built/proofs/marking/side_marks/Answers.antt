use Rattle.std.proofs.Common.{ap, ◌∙◌, arith}
use Rattle.lf_built.specs.views.Marking.{side_mark}
use Rattle.lf_built.proofs.OneMore.{one_more}
use Rattle.lf_built.proofs.marking.side_marks.Goals as goal

pub loop-label-preserved : goal.loop-label-preserved
loop-label-preserved c =
    let mark = side_mark c.args.op c.args.matching.now in
    one_more mark c.args.names.now c.loop-label.label c.index-names-label.result (omega (arith, c.loop-label-test.true)) c.index-names-label.is
    c.loop-label.marks c.push.new.self c.side_mark.result c.loop-label.invariant (c.side_mark.ensures ∙ ap mark c.as_str.ensures) c.in_ok-push.ensures.ok
