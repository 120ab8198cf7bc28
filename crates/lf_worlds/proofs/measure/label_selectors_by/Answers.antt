use Rattle.std.proofs.Common.{◌≡◌, ◌*◌, ◌-◌, ◌^◌, ℕ, List, length, min, refl, ap, ap₂, sym, ◌∙◌}
use Rattle.lf_ast.specs.Rules.{RuleTree, rule_trees}
use Rattle.lf_trials.specs.Candidates.{labels_in}
use Rattle.lf_candidates.proofs.Standing.{label_count}
use Rattle.lf_worlds.specs.Measure.{selectors_tried}
use Rattle.lf_worlds.proofs.Measured.{counts_long, product_up_to}
use Rattle.lf_worlds.proofs.OneMeasure.{are_reaches, reach_at}
use Rattle.lf_worlds.proofs.measure.label_selectors_by.Goals as goal

pub selectors_tried-requires-clause-sources : goal.selectors_tried-requires-clause-sources
selectors_tried-requires-clause-sources c = (rule_trees c.args.rules.now, c.requires)

pub selectors_tried-requires-clause-counts : goal.selectors_tried-requires-clause-counts
selectors_tried-requires-clause-counts c = counts_long (rule_trees c.args.rules.now) c.args.sources.now c.requires (c.as_slice.ensures.value ∙ c.in_ok-counts.ensures)

pub returns : goal.returns
returns c =
    let u = c.args.universe.now in
    let trees : List RuleTree = rule_trees c.args.rules.now in
    let most : ℕ = 2 ^ 64 - 1 in
    let tried : ℕ = selectors_tried trees (reach_at trees) in
    let is : c.in_ok-tried.tried ≡ min tried most = c.in_ok-tried.ensures trees c.requires (c.as_slice.ensures.value ∙ c.in_ok-counts.ensures) (reach_at trees) (are_reaches trees) in
    let labels : c.labels-labels.result ≡ length (labels_in u) = c.labels-labels.ensures.count ∙ sym (label_count u c.labels-labels.ensures.within) in (
      length (labels_in u) * tried,
      record { reach = reach_at trees; are_reaches = are_reaches trees; is_product = refl },
      c.saturating_mul.ensures ∙ ap₂ (λ (m n : ℕ). min (m * n) most) labels is ∙ product_up_to (length (labels_in u)) tried most,
    )
