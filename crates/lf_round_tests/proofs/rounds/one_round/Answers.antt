use Rattle.std.proofs.Common.{List, subst}
use Rattle.lf_ast.specs.Rules.{rule_trees}
use Rattle.lf_ast.specs.declared.rule.Rule.{Rule}
use Rattle.lf_rounds.specs.Tasks.{IsBelowLeast}
use Rattle.lf_semantics.specs.Listing.{Listing}
use Rattle.lf_round_tests.proofs.rounds.one_round.Goals as goal

pub returns-clause-below : goal.returns-clause-below
returns-clause-below c =
    let words = c.in_ok-end.end.words in
    let P : Listing → Type 0 = λ u. IsBelowLeast u (rule_trees c.in_ok-round.round.rules) words in
    let Q : List Rule → Type 0 = λ rs. IsBelowLeast c.args.universe.now (rule_trees rs) words in
    subst Q c.in_ok-round.ensures.round.rules (subst P c.in_ok-round.ensures.round.universe c.in_ok-end.ensures.below)
