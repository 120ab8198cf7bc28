use Rattle.std.proofs.Common.{ap, sym, ◌∙◌}
use Rattle.lf_ast.specs.declared.verdict.RuleVerdicts.TheVariants as told_rule
use Rattle.lf_worlds.specs.views.Told.{label_verdict, rule_verdict}
use Rattle.lf_judge.specs.Judged.{verdict_told, verdicts_told}
use Rattle.lf_judge.proofs.Places.{map_twice}
use Rattle.lf_judge.proofs.verdicts.rule_told.Goals as goal

pub returns-in_ok-of-in-Labels : goal.returns-in_ok-of-in-Labels
returns-in_ok-of-in-Labels c = λ r e.
    ap told_rule.Labels (c.in_ok-of-in-Labels.ensures r e ∙ sym (map_twice (verdict_told c.args.first c.args.number r) label_verdict c.in-Labels.of))
    ∙ ap (λ k. verdicts_told c.args.first c.args.number r (rule_verdict k)) (sym c.in-Labels.is)
