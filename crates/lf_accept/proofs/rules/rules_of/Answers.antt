use Rattle.std.proofs.lemmas.Result.{err_from_is_err_and}
use Rattle.lf_accept.proofs.Steps.{counted_more, ends_inside, first_breach, rules_more}
use Rattle.lf_accept.proofs.Takings.{rules_so}
use Rattle.lf_accept.proofs.rules.rules_of.Goals as goal

pub returns-in_err-push_rule-clause-refused : goal.returns-in_err-push_rule-clause-refused
returns-in_err-push_rule-clause-refused c =
    let p = err_from_is_err_and c.from_residual-in_err-push_rule.result c.from_residual-in_err-push_rule.ensures.1 in
    rw (p.1, p.2) (first_breach c.args.file c.args.sources.now c.loop-source.source-index c.source-item.result c.loop-source-test.true c.source-item.is c.loop-source.rules c.loop-source.invariant.are_rules c.in_err-push_rule.field-0.0 c.in_err-push_rule.ensures.refused)

pub loop-source-preserved : goal.loop-source-preserved
loop-source-preserved c =
    let found = c.in_ok-push_rule.ensures.found in
    record {
      are_rules =
          rw found.1 (rules_more c.args.file c.args.sources.now c.loop-source.source-index c.source-item.result c.loop-source-test.true c.source-item.is c.loop-source.rules c.loop-source.invariant.are_rules found.0 found.2);
      counted = rw found.1 (counted_more c.loop-source.rules found.0 c.args.allowance.now.left c.loop-source.allowance.left c.push_rule.new.allowance.left c.loop-source.invariant.counted found.3);
    }

pub returns-in_err-push_rule-clause-refused_inside : goal.returns-in_err-push_rule-clause-refused_inside
returns-in_err-push_rule-clause-refused_inside c = λ n inside.
    let p = err_from_is_err_and c.from_residual-in_err-push_rule.result c.from_residual-in_err-push_rule.ensures.1 in
    rw (p.1, p.2) (c.in_err-push_rule.ensures.refused_inside n (ends_inside n c.args.sources.now c.loop-source.source-index c.source-item.result c.loop-source-test.true c.source-item.is inside))

pub returns-in_err-push_rule-clause-spent : goal.returns-in_err-push_rule-clause-spent
returns-in_err-push_rule-clause-spent c =
    let p = err_from_is_err_and c.from_residual-in_err-push_rule.result c.from_residual-in_err-push_rule.ensures.1 in
    rw (p.1, p.2) (rules_so c.args.file c.args.sources.now c.loop-source.source-index c.source-item.result c.loop-source-test.true c.source-item.is c.loop-source.rules c.loop-source.invariant.are_rules
    c.args.allowance.now.left c.loop-source.allowance.left c.push_rule.new.allowance.left c.loop-source.invariant.counted c.in_err-push_rule.field-0.0 c.in_err-push_rule.ensures.spent)
