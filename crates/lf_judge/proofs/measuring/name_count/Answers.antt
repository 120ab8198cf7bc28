use Rattle.std.proofs.Common.{List, length, ◌∙◌, ap, arith}
use Rattle.lf_ast.specs.Labels.{Bytes}
use Rattle.lf_ast.specs.Rules.{rule_trees}
use Rattle.lf_deps.proofs.RuleTrees.{trees_count}
use Rattle.lf_checks.proofs.RecordedLaws.{few_recorded}
use Rattle.lf_judge.proofs.measuring.name_count.Goals as goal

pub returns-clause-count : goal.returns-clause-count
returns-clause-count c = c.count.ensures ∙ ap (λ (l : List Bytes). length l) c.requires.sources.names

pub returns-clause-few : goal.returns-clause-few
returns-clause-few c =
    let names = ap (λ (l : List Bytes). length l) c.requires.sources.names in
    omega (arith, c.count.ensures, names, few_recorded (rule_trees c.args.rules.now), trees_count c.args.rules.now)
