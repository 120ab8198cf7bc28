use Rattle.std.proofs.Common.{subst, sym}
use Rattle.lf_ast.specs.Rules.{rule_trees}
use Rattle.lf_deps.specs.views.Sources.{IsSourcesOf, Sources}
use Rattle.lf_judge.proofs.measuring.limit_trials.Goals as goal

pub label_selectors_over-requires : goal.label_selectors_over-requires
label_selectors_over-requires c = subst (λ (s : Sources). IsSourcesOf (rule_trees c.args.rules.now) s) (sym c.sources-sources.ensures) c.requires.recorded.sources
