use Rattle.std.proofs.Common.{◌<◌, length, subst, sym, ◌∙◌}
use Rattle.lf_laws.proofs.Slices.{some_at}
use Rattle.lf_ast.specs.Rules.{RuleTree, rule_tree}
use Rattle.lf_checks.specs.views.Checked.{CheckerView}
use Rattle.lf_deps.proofs.RuleTrees.{tree_at}
use Rattle.lf_deps.specs.views.Sources.{IsSourcesOf, Sources}
use Rattle.lf_semantics.specs.Environments.{IsEnvironment}
use Rattle.lf_semantics.specs.Listing.{Listing}
use Rattle.lf_judge.specs.views.AtHand.{rules_of_hand}
use Rattle.lf_judge.proofs.RowsAtHand.{at_hand}
use Rattle.lf_judge.proofs.rule_read.read_rule.Goals as goal

pub part_rows-requires-clause-env : goal.part_rows-requires-clause-env
part_rows-requires-clause-env c = let P : CheckerView → Type 0 = λ k. IsEnvironment k.universe k.env in subst P (sym c.requires.ready.checker) c.requires.ready.least.of_rules.environment

pub part_rows-requires-clause-rule : goal.part_rows-requires-clause-rule
part_rows-requires-clause-rule c = let P : CheckerView → Type 0 = λ k. c.args.number < length k.rules in subst P (sym c.requires.ready.checker) c.requires.rule

pub by-requires-clause-sources : goal.by-requires-clause-sources
by-requires-clause-sources c = subst (λ (s : Sources). IsSourcesOf (rules_of_hand c.args.hand.now) s) (sym c.sources.ensures) c.requires.readings.sources

pub by-requires-clause-env : goal.by-requires-clause-env
by-requires-clause-env c = subst (λ (u : Listing). IsEnvironment u c.args.hand.now.env.now) (sym c.requires.ready.universe) c.requires.ready.least.of_rules.environment

pub by-requires-clause-rows : goal.by-requires-clause-rows
by-requires-clause-rows c r at = c.as_slice.ensures.value ∙ at_hand c.args.hand.now c.requires.ready c.args.number c.in_ok-rows.rows.items c.in_ok-rows.ensures r at

pub findings_by-requires-clause-rows : goal.findings_by-requires-clause-rows
findings_by-requires-clause-rows c = at_hand c.args.hand.now c.requires.ready c.args.number c.in_ok-rows.rows.items c.in_ok-rows.ensures

pub returns : goal.returns
returns c =
    let hand = c.args.hand.now in
    let own = some_at hand.rules.now c.args.number c.requires.rule in
    let r : RuleTree = rule_tree own.0 in
    let at = tree_at hand.rules.now c.args.number own.0 own.1 in
    record {
      rule = r;
      stands = at;
      told = c.in_ok-row.ensures r at;
      list = c.in_ok-findings.ensures;
    }
