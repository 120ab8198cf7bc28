use Rattle.std.proofs.Common.{◌≡◌, ◌<◌, ◌+◌, ℕ, List, Option, length, sym, ◌∙◌, ap, subst, arith}
use Rattle.lf_ast.specs.Rules.{rule_trees}
use Rattle.lf_semantics.specs.Listing.{Listing}
use Rattle.lf_candidates.specs.views.ClassTexts.{StandsBefore}
use Rattle.lf_candidates.proofs.Standing.{all_stand, none_yet, one_stands}
use Rattle.lf_uniform.specs.views.Texts.{first_texts}
use Rattle.lf_uniform.proofs.texts.first_texts.Goals as goal

pub loop-label-preserved : goal.loop-label-preserved
loop-label-preserved c = λ own at.
    let u = c.args.setting.now.universe in
    let D = first_texts u (rule_trees c.args.setting.now.rules) c.args.number own in
    let before : List (Option ℕ) = c.in_ok-texts.texts in
    let l : ℕ = c.loop-label.label in
    let is = c.loop-label.invariant own at in
    let size : length before ≡ length u.named = c.in_ok-texts.ensures.count ∙ ap (λ (v : Listing). length v.named) c.universe-universe.ensures.value in
    let less : l < length u.named = let m = ap (λ (v : Listing). length v.named) c.universe-universe.ensures.value in omega (arith, m, c.loop-label-test.true, c.labels-label-end.ensures.count) in
    subst (λ (cs : List (Option ℕ)). StandsBefore u before (l + 1) cs D) (sym c.put.ensures)
    (one_stands u D before l c.loop-label.texts c.in_ok-class.class (omega (arith, less, is.count, size)) is (c.in_ok-class.ensures.class, sym (c.in_ok-class.ensures.text own at)))

pub loop-label-init : goal.loop-label-init
loop-label-init c = λ own at. none_yet c.args.setting.now.universe (first_texts c.args.setting.now.universe (rule_trees c.args.setting.now.rules) c.args.number own) c.in_ok-texts.texts

pub returns : goal.returns
returns c = λ own at.
    let u = c.args.setting.now.universe in
    let size : length c.in_ok-texts.texts ≡ length u.named = c.in_ok-texts.ensures.count ∙ ap (λ (v : Listing). length v.named) c.universe-universe.ensures.value in
    let end = ap (λ (v : Listing). length v.named) c.universe-universe.ensures.value in
    all_stand u (first_texts u (rule_trees c.args.setting.now.rules) c.args.number own) c.in_ok-texts.texts c.loop-label.label c.loop-label.texts size (omega (arith, end, c.loop-label-test.false, c.labels-label-end.ensures.count)) (c.loop-label.invariant own at)
