use Rattle.std.proofs.Common.{List, sym, ap, ◌∙◌, subst}
use Rattle.std.specs.Prelude.{option_map}
use Rattle.lf_ast.specs.Labels.{Bytes, Labels}
use Rattle.lf_ast.specs.Rules.{RuleTree, rule_trees}
use Rattle.lf_worlds.specs.views.Tried.{AreSamplesOf, IsWorldShown, first_with, world_with}
use Rattle.lf_worlds.proofs.SharedAbsence.{world_shown}
use Rattle.lf_worlds.proofs.showing.world_of.Goals as goal

pub returns-in-Some : goal.returns-in-Some
returns-in-Some c =
    let trees : List RuleTree = rule_trees c.args.rules.now in
    let trial = c.args.trial in
    let samples : List Labels = c.in-Some.samples in
    let shown = subst (AreSamplesOf trees c.args.i trial) c.in-Some.is c.in_ok-samples.ensures in
    subst (IsWorldShown trees c.args.i c.args.label.now c.args.presence trial) (sym (c.into_world.ensures ∙ ap (λ (n : Bytes). option_map (world_with trial) (first_with n c.args.presence samples)) c.as_str.ensures))
    (world_shown trees c.args.i c.args.label.now c.args.presence trial samples shown)

pub returns-in-None : goal.returns-in-None
returns-in-None c = subst (AreSamplesOf (rule_trees c.args.rules.now) c.args.i c.args.trial) c.in-None.is c.in_ok-samples.ensures c.args.label.now c.args.presence
