use Rattle.std.proofs.Common.{ap, ◌∙◌, arith}
use Rattle.lf_built.proofs.OneMore.{one_more}
use Rattle.lf_built.proofs.marking.chosen.Goals as goal

pub loop-label-preserved : goal.loop-label-preserved
loop-label-preserved g c =
    let chooses = g.C.LabelChoice.chooses c.args.choice.now in
    one_more chooses c.args.names.now c.loop-label.label c.index-names-label.result (omega (arith, c.loop-label-test.true)) c.index-names-label.is
    c.loop-label.marks c.push.new.self c.chooses.result c.loop-label.invariant (c.chooses.ensures ∙ ap chooses c.as_str.ensures) c.in_ok-push.ensures.ok
