use Rattle.std.proofs.Common.{◌≡◌, List, sym, ap, ◌∙◌, subst}
use Rattle.std.specs.Prelude.{IfOk}
use Rattle.std.proofs.lemmas.Result.{err_from_is_err_and}
use Rattle.lf_ast.specs.Rules.{rule_trees}
use Rattle.lf_ast.specs.declared.rule.Rule.{Rule}
use Rattle.lf_semantics.specs.Listing.{IsListing, Listing, universe_of}
use Rattle.lf_semantics.specs.Mentions.{rules_mentions}
use Rattle.lf_semantics.proofs.ListingLaws.{universe_is_listing}
use Rattle.lf_classes.specs.Limits.{ExceedsUniverseLimit}
use Rattle.lf_classes.specs.views.Mentioned.{mentioned_all, nothing_mentioned, with_star}
use Rattle.lf_classes.proofs.Listed.{met_listing}
use Rattle.lf_classes.proofs.universe.Universe.build.Goals as goal

-- what was met from nothing on is the universe
is_universe : (rules seen : List Rule) (start met : Listing) → start ≡ nothing_mentioned → seen ≡ rules → met ≡ mentioned_all start (rules_mentions (rule_trees seen)) → with_star met ≡ universe_of (rule_trees rules)
is_universe rules seen start met none same all =
    ap with_star (all ∙ ap (λ s. mentioned_all s (rules_mentions (rule_trees seen))) none ∙ ap (λ rs. mentioned_all nothing_mentioned (rules_mentions (rule_trees rs))) same) ∙ met_listing (rules_mentions (rule_trees rules))

pub returns-in_err-check_limits-clause-refused : goal.returns-in_err-check_limits-clause-refused
returns-in_err-check_limits-clause-refused c =
    let p = err_from_is_err_and c.from_residual-in_err-check_limits.result c.from_residual-in_err-check_limits.ensures.1 in
    let same = is_universe c.args.rules.now c.as_slice.result.now c.in_ok-mentions.mentions c.mention_rules.new.self c.in_ok-mentions.ensures c.as_slice.ensures c.in_ok-mention_rules.ensures in
    rw (p.1, p.2) (subst (λ u. ExceedsUniverseLimit u c.in_err-check_limits.field-0.0) same c.in_err-check_limits.ensures.refused)

pub of-requires : goal.of-requires
of-requires c =
    let same = is_universe c.args.rules.now c.as_slice.result.now c.in_ok-mentions.mentions c.mention_rules.new.self c.in_ok-mentions.ensures c.as_slice.ensures c.in_ok-mention_rules.ensures in
    record {
      listing = subst IsListing (sym same) (universe_is_listing (rule_trees c.args.rules.now));
      labels = c.in_ok-check_limits.ensures.labels;
      classes = c.in_ok-check_limits.ensures.classes;
    }

pub returns-clause-found : goal.returns-clause-found
returns-clause-found c =
    let same = is_universe c.args.rules.now c.as_slice.result.now c.in_ok-mentions.mentions c.mention_rules.new.self c.in_ok-mentions.ensures c.as_slice.ensures c.in_ok-mention_rules.ensures in
    subst (λ u. IfOk c.of.result (λ universe. universe ≡ u)) same c.of.ensures.found
