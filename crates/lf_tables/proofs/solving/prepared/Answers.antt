use Rattle.std.proofs.Common.{sym, ◌∙◌, subst}
use Rattle.lf_ast.specs.Rules.{rule_trees}
use Rattle.lf_semantics.specs.Environments.{CoversRules}
use Rattle.lf_semantics.specs.Listing.{Listing}
use Rattle.lf_semantics.proofs.ListingLaws.{universe_covers}
use Rattle.lf_tables.proofs.solving.prepared.Goals as goal

pub returns : goal.returns
returns c = let P : Listing → Type 0 = λ u. CoversRules u (rule_trees c.args.rules.now) in subst P (sym (c.match_patterns.ensures ∙ c.in_ok-universe.ensures.found)) (universe_covers (rule_trees c.args.rules.now))
