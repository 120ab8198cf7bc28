use Rattle.std.proofs.Common.{◌≡◌, Some, map, subst, slice_get}
use Rattle.lf_laws.proofs.Slices.{some_at}
use Rattle.lf_ast.specs.Rules.{RuleTree, rule_tree, rule_trees}
use Rattle.lf_ast.specs.declared.rule.Rule.{Rule}
use Rattle.lf_deps.proofs.RuleTrees.{tree_at}
use Rattle.lf_semantics.specs.ClassRows.{Sets}
use Rattle.lf_semantics.specs.Environments.{IsEnvironment, rule_row}
use Rattle.lf_semantics.specs.Listing.{IsListing}
use Rattle.lf_trials.specs.Candidates.{labels_in}
use Rattle.lf_trials.specs.Verdicts.{AreLabelVerdicts, Labels}
use Rattle.lf_worlds.specs.views.Told.{label_verdict}
use Rattle.lf_worlds.specs.views.Tried.{Tried}
use Rattle.lf_worlds.proofs.RuleRows.{evaluated_at, is_alive, is_dead, live_row, of_tree, row_shape}
use Rattle.lf_worlds.proofs.StandsOpen.{open_if_unresolved}
use Rattle.lf_worlds.proofs.each_rule.Trials.rule.Goals as goal

pub returns-then-is_empty-clause-verdict : goal.returns-then-is_empty-clause-verdict
returns-then-is_empty-clause-verdict c =
    let v : Tried = c.args.self.now in
    let own = some_at v.rules c.args.i c.requires in
    let rule : Rule = own.0 in
    let value : slice_get v.rules c.args.i ≡ Some rule = own.1 in
    let is : c.in_ok-row.row ≡ rule_row v.universe v.env (rule_tree rule) = c.in_ok-row.ensures.row (rule_tree rule) (tree_at v.rules c.args.i rule value) in
    is_dead v.universe v.env v.rules c.args.i rule value c.in_ok-row.row is c.is_empty.result c.is_empty.ensures.empty c.if-is_empty.true

pub labels-requires-clause-evaluated : goal.labels-requires-clause-evaluated
labels-requires-clause-evaluated c =
    let v : Tried = c.args.self.now in
    let own = some_at v.rules c.args.i c.requires in
    let rule : Rule = own.0 in
    let value : slice_get v.rules c.args.i ≡ Some rule = own.1 in
    let is : c.in_ok-row.row ≡ rule_row v.universe v.env (rule_tree rule) = c.in_ok-row.ensures.row (rule_tree rule) (tree_at v.rules c.args.i rule value) in
    let listing : IsListing v.universe = c.in_ok-row.ensures.listing in
    evaluated_at v.universe v.env v.rules c.args.i rule value c.in_ok-row.row is listing (is_alive v.universe v.env v.rules c.args.i rule value c.in_ok-row.row is c.is_empty.result c.is_empty.ensures.empty c.if-is_empty.false)

pub labels-requires-clause-shape : goal.labels-requires-clause-shape
labels-requires-clause-shape c =
    let v : Tried = c.args.self.now in
    let own = some_at v.rules c.args.i c.requires in
    let rule : Rule = own.0 in
    let value : slice_get v.rules c.args.i ≡ Some rule = own.1 in
    let is : c.in_ok-row.row ≡ rule_row v.universe v.env (rule_tree rule) = c.in_ok-row.ensures.row (rule_tree rule) (tree_at v.rules c.args.i rule value) in
    let listing : IsListing v.universe = c.in_ok-row.ensures.listing in
    let ok : IsEnvironment v.universe v.env = c.in_ok-row.ensures.environment in
    row_shape v.universe v.env v.rules c.args.i rule value c.in_ok-row.row is listing ok

pub returns-clause-verdict : goal.returns-clause-verdict
returns-clause-verdict c = λ r at.
    let v : Tried = c.args.self.now in
    let own = some_at v.rules c.args.i c.requires in
    let rule : Rule = own.0 in
    let value : slice_get v.rules c.args.i ≡ Some rule = own.1 in
    let is : c.in_ok-row.row ≡ rule_row v.universe v.env (rule_tree rule) = c.in_ok-row.ensures.row (rule_tree rule) (tree_at v.rules c.args.i rule value) in
    let same = of_tree v.universe v.env v.rules c.args.i rule value c.in_ok-row.row is r at in
    let live = is_alive v.universe v.env v.rules c.args.i rule value c.in_ok-row.row is c.is_empty.result c.is_empty.ensures.empty c.if-is_empty.false in (
      live_row v.universe v.env r c.in_ok-row.row same live,
      subst (λ (row : Sets). AreLabelVerdicts v.universe v.env (rule_trees v.rules) c.args.i row (labels_in v.universe) (map label_verdict c.in_ok-of.of)) same c.in_ok-of.ensures,
    )

pub returns-clause-unresolved : goal.returns-clause-unresolved
returns-clause-unresolved c = λ typed unnamed.
    let v : Tried = c.args.self.now in
    let own = some_at v.rules c.args.i c.requires in
    let r : RuleTree = rule_tree own.0 in
    let at : slice_get (rule_trees v.rules) c.args.i ≡ Some r = tree_at v.rules c.args.i own.0 own.1 in
    open_if_unresolved v.universe v.env (rule_trees v.rules) c.args.i c.in_ok-row.ensures.within c.in_ok-row.ensures.covers c.in_ok-row.ensures.least r at (Labels (map label_verdict c.in_ok-of.of)) (returns-clause-verdict c r at) typed unnamed
