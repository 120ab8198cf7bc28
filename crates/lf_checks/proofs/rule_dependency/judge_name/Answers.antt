use Rattle.std.proofs.lemmas.Result.{on_ok_weaker}
use Rattle.lf_checks.proofs.RecordedLaws.{of_name}
use Rattle.lf_checks.proofs.rule_dependency.judge_name.Goals as goal

pub returns : goal.returns
returns c rules are =
    on_ok_weaker c.tell_if-2.result
    (λ b. of_name rules c.args.name.now c.as_str.result.now c.as_str-2.result.now c.args.span c.lack-lacking.result c.read_themselves-cyclic.result c.args.found.now.items c.tell_if.new.found.items c.tell_if-2.new.found.items c.as_str.ensures c.as_str-2.ensures
    (c.lack-lacking.ensures rules are) (c.read_themselves-cyclic.ensures rules are) c.in_ok-tell_if.ensures b)
    c.tell_if-2.ensures
