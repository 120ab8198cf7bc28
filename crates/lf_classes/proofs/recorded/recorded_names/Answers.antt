use Rattle.std.proofs.Common.{List, length, take, ◌∙◌, ap, arith}
use Rattle.std.proofs.lemmas.List.{length-map, take_all}
use Rattle.lf_ast.specs.Rules.{rule_tree, rule_trees}
use Rattle.lf_ast.specs.declared.rule.Rule.{Rule}
use Rattle.lf_semantics.specs.Environments.{recorded_names}
use Rattle.lf_classes.proofs.RecordedNames.{recorded_next}
use Rattle.lf_classes.proofs.recorded.recorded_names.Goals as goal

pub loop-rule-init : goal.loop-rule-init
loop-rule-init c = record { are = c.new-names.ensures; few = omega (arith, ap length c.new-names.ensures) }

pub loop-rule-preserved : goal.loop-rule-preserved
loop-rule-preserved c =
    recorded_next c.loop-rule.names c.add_recorded.new.self c.args.rules.now c.loop-rule.rule-index c.rule-item.result c.loop-rule-test.true c.rule-item.is c.in_ok-add_recorded.ensures.ok c.loop-rule.invariant

pub returns-clause-names : goal.returns-clause-names
returns-clause-names c = c.loop-rule.invariant.are ∙ ap (λ (rs : List Rule). recorded_names (rule_trees rs)) (take_all c.loop-rule.rule-index c.args.rules.now (omega (arith, c.loop-rule-test.false)))

pub returns-clause-few : goal.returns-clause-few
returns-clause-few c =
    let all = ap (λ (l : List Rule). length l) (take_all c.loop-rule.rule-index c.args.rules.now (omega (arith, c.loop-rule-test.false))) in
    omega (arith, c.loop-rule.invariant.few, length-map (take c.loop-rule.rule-index c.args.rules.now) rule_tree, all)
