use Rattle.std.proofs.Common.{sym, subst}
use Rattle.lf_ast.specs.Rules.{rule_trees}
use Rattle.lf_deps.specs.views.Sources.{IsSourcesOf, Sources}
use Rattle.lf_semantics.specs.Environments.{CoversRules}
use Rattle.lf_semantics.specs.Listing.{Listing}
use Rattle.lf_semantics.proofs.ListingLaws.{universe_covers}
use Rattle.lf_judge.proofs.judging.judge_prepared.Goals as goal

pub solve_shared_by-requires-clause-covers : goal.solve_shared_by-requires-clause-covers
solve_shared_by-requires-clause-covers g c κs within =
    let rules = rule_trees c.args.accepted.now.rules in
    let P : Listing → Type 0 = λ u. CoversRules u rules in subst P (sym c.requires.universe) (universe_covers rules)

pub solve_shared_by-requires-clause-sources : goal.solve_shared_by-requires-clause-sources
solve_shared_by-requires-clause-sources g c κs within = subst (λ (s : Sources). IsSourcesOf (rule_trees c.args.accepted.now.rules) s) (sym c.sources-sources.ensures) c.requires.recorded.sources
