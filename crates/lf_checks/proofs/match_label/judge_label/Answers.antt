use Rattle.std.proofs.lemmas.Result.{on_ok_weaker}
use Rattle.lf_checks.proofs.SoughtLaws.{of_label}
use Rattle.lf_checks.proofs.match_label.judge_label.Goals as goal

pub returns : goal.returns
returns c =
    on_ok_weaker c.tell_if.result
    (λ a. of_label c.args.universe.now c.args.row.now c.args.label.now c.as_str-name.result.now c.is_impossible-never.result c.args.found.now.items c.tell_if.new.found.items c.as_str-name.ensures c.is_impossible-never.ensures a)
    c.tell_if.ensures
