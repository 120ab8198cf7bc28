use Rattle.std.proofs.Common.{◌∙◌, ap, subst}
use Rattle.lf_ast.specs.Rules.{rule_trees}
use Rattle.lf_checks.specs.views.Checked.{CheckerView}
use Rattle.lf_semantics.specs.Environments.{IsLeast}
use Rattle.lf_semantics.specs.Listing.{Listing}
use Rattle.lf_judge.proofs.telling.tell_named.Goals as goal

pub tell_at_hand-requires-clause-ready : goal.tell_at_hand-requires-clause-ready
tell_at_hand-requires-clause-ready g c κs within =
    let rules = c.args.rules.now in
    let env = c.args.env.now in
    let P : Listing → Type 0 = λ u. IsLeast u (rule_trees rules) env in
    let checked : Listing → CheckerView = λ u. record { universe = u; env = env; rules = rules } in
    record {
      few = c.requires.few;
      stand = c.requires.stand;
      sources = c.requires.sources;
      names = c.requires.names;
      universe = c.requires.universe;
      least = subst P c.requires.universe c.requires.least;
      checker = c.in_ok-checker.ensures ∙ ap checked c.requires.universe;
    }
