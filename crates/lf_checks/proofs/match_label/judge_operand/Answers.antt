use Rattle.std.proofs.lemmas.Result.{on_ok_weaker}
use Rattle.lf_checks.proofs.Added.{adds_both}
use Rattle.lf_checks.proofs.match_label.judge_operand.Goals as goal

pub returns : goal.returns
returns c =
    on_ok_weaker c.judge_labels-2.result
    (λ b. adds_both _ _ c.args.found.now.items c.judge_labels.new.found.items c.judge_labels-2.new.found.items c.in_ok-judge_labels.ensures b)
    c.judge_labels-2.ensures
