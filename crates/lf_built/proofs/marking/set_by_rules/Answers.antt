use Rattle.std.proofs.Common.{List, ◌||◌, map, ap, ◌∙◌, arith}
use Rattle.std.specs.List.{list_any}
use Rattle.std.specs.Str.{bytes_eq}
use Rattle.lf_ast.specs.Rules.{rule_tree}
use Rattle.lf_ast.specs.declared.rule.RuleLabel.{RuleLabel}
use Rattle.lf_semantics.specs.Grouped.{is_metric}
use Rattle.lf_built.specs.views.Marking.{set_by}
use Rattle.lf_built.proofs.OneMore.{one_image_more}
use Rattle.lf_built.proofs.marking.set_by_rules.Goals as goal

pub loop-k-preserved : goal.loop-k-preserved
loop-k-preserved c =
    let names = c.args.names.now in
    let made = c.in_ok-marks.ensures ∙ ap (λ (ls : List RuleLabel). map (λ name. is_metric name || list_any (λ (l : RuleLabel). bytes_eq l.key name) ls) names) c.as_slice-labels.ensures in
    one_image_more rule_tree c.args.rules.now c.loop-k.k c.index-rules-k.result (omega (arith, c.loop-k-test.true)) c.index-rules-k.is (set_by names) c.loop-k.set.items c.push.new.self.items c.in_ok-marks.marks c.loop-k.invariant made c.in_ok-push.ensures.items
