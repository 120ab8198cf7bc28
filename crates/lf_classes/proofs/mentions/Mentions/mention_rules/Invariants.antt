use Rattle.std.proofs.Common.{◌≡◌, take}
use Rattle.lf_ast.specs.Rules.{rule_trees}
use Rattle.lf_semantics.specs.Mentions.{rules_mentions}
use Rattle.lf_classes.specs.views.Mentioned.{mentioned_all}
use Rattle.lf_classes.proofs.mentions.Mentions.mention_rules.Given as goal

abbrev pub invariant-loop-rule : goal.invariant-loop-rule
invariant-loop-rule l = l.self ≡ mentioned_all l.initial.self (rules_mentions (rule_trees (take l.rule-index l.rules)))
