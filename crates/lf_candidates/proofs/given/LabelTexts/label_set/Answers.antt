use Rattle.std.proofs.Common.{◌<◌, ◌-◌, ℕ, List, length, sym, subst, ◌∙◌, arith}
use Rattle.lf_ast.specs.Labels.{Bytes}
use Rattle.lf_trials.specs.Candidates.{labels_in}
use Rattle.lf_candidates.specs.views.ClassTexts.{StandsAt}
use Rattle.lf_candidates.proofs.Standing.{label_count, name_read, next_label}
use Rattle.lf_candidates.proofs.given.LabelTexts.label_set.Goals as goal

pub loop-label-preserved : goal.loop-label-preserved
loop-label-preserved c =
    let u = c.args.universe.now in
    let label : ℕ = c.loop-label.label - 1 in
    let within = c.loop-label.invariant.within in
    let more = c.loop-label-test.true in
    let less : label < length (labels_in u) = omega (arith, within, more) in
    let named : label < length u.named = omega (arith, less, label_count u c.requires.universe) in
    let name = name_read u c.args.names.now label c.index-names-label.result c.requires.names (let P : List Bytes → Type 0 = λ xs. label < length xs in subst P (sym c.requires.names) less) c.index-names-label.is in
    record {
      within = omega (arith, within);
      made = λ D stands.
          c.in_ok-put_class.ensures D (subst (λ o. StandsAt u label o D) (sym c.get.ensures) (stands.each label named))
          ∙ next_label u D label c.loop-label.label c.index-names-label.result c.loop-label.labels less (omega (arith, more)) name (c.loop-label.invariant.made D stands);
    }
