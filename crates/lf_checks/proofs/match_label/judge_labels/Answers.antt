use Rattle.std.proofs.Common.{subst}
use Rattle.lf_checks.specs.views.Adding.{Adds}
use Rattle.lf_checks.specs.views.Sought.{IsNever}
use Rattle.lf_checks.proofs.Added.{adds_of_more}
use Rattle.lf_checks.proofs.match_label.judge_labels.Goals as goal

pub loop-label-preserved : goal.loop-label-preserved
loop-label-preserved c =
    let is = IsNever c.args.universe.now c.args.row.now in
    adds_of_more is c.args.labels.now c.loop-label.label-index c.label-item.result c.args.found.now.items c.loop-label.found.items c.judge_label.new.found.items c.loop-label-test.true c.loop-label.invariant
    (subst (λ x. Adds (is x) c.loop-label.found.items c.judge_label.new.found.items) c.label-item.is c.in_ok-judge_label.ensures)
