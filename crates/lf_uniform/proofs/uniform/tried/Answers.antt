use Rattle.std.proofs.Common.{◌≡◌, List, map, sym, ◌∙◌, ap, subst, true}
use Rattle.lf_ast.specs.Labels.{Bytes}
use Rattle.lf_ast.specs.Rules.{RuleTree, rule_trees}
use Rattle.lf_ast.specs.Selectors.{metric}
use Rattle.lf_semantics.specs.Listing.{Listing}
use Rattle.lf_candidates.specs.views.ClassTexts.{Stands, name_at}
use Rattle.lf_trials.specs.Candidates.{labels_in}
use Rattle.lf_trials.specs.Given.{Given, giving, label_set}
use Rattle.lf_trials.specs.Reached.{with_reach}
use Rattle.lf_trials.specs.Selected.{selected_by}
use Rattle.lf_trials.specs.Uniform.{has_texts, uniform_series, uniform_texts}
use Rattle.lf_uniform.proofs.UniformWorlds.{a_world}
use Rattle.lf_uniform.proofs.uniform.tried.Goals as goal

pub returns : goal.returns
returns c =
    let u = c.args.setting.now.universe in
    let rules : List RuleTree = rule_trees c.args.setting.now.rules in
    let given = c.requires.prepared in
    let prepared = given.is_shared.2 in
    let label : Bytes = name_at u c.args.label in
    let D : Given = uniform_texts u rules c.args.number given.own label c.args.presence in
    let stands = c.in_ok-texts.ensures given.own given.at in
    let whole : has_texts u D ≡ true = sym (c.is_whole.ensures u D prepared.within stands) ∙ c.if-not-is_whole.false in
    let made : c.in_ok-series.series ≡ uniform_series u rules (selected_by rules (with_reach c.args.number c.args.reach.now)) D =
    c.in_ok-series.ensures D (subst (λ (v : Listing). Stands v c.in_ok-texts.texts D) (sym c.universe.ensures.value) stands)
    ∙ ap (λ (v : Listing). map (λ name. label_set (labels_in v) (giving metric name D)) c.args.shared.now.names) c.universe.ensures.value
    ∙ ap (map (λ name. label_set (labels_in u) (giving metric name D))) prepared.names in
    a_world u rules c.args.number label c.args.presence given.own given.at c.args.reach.now given.is_reach given.is_shared.0 given.is_shared.1 whole c.in_ok-series.series c.in_ok-steps.steps made c.in_ok-steps.ensures
