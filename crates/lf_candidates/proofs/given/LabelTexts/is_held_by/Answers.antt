use Rattle.std.proofs.Common.{◌≡◌, ◌<◌, ◌&&◌, Bool, true, false, [], length, not, refl, sym, ap, subst, true≢false, ◌∙◌, arith}
use Rattle.std.specs.List.{list_all}
use Rattle.std.specs.Option.{option_map_or}
use Rattle.std.proofs.lemmas.List.{take_all}
use Rattle.std.proofs.lemmas.List.Folds.{list_all_more}
use Rattle.lf_ast.specs.Labels.{Bytes}
use Rattle.lf_semantics.specs.ClassRows.{is_live}
use Rattle.lf_trials.specs.Candidates.{labels_in}
use Rattle.lf_trials.specs.Given.{holds_text}
use Rattle.std.proofs.Math.Bool.{and-true, and-false}
use Rattle.lf_candidates.specs.views.ClassTexts.{StandsAt, name_at}
use Rattle.lf_candidates.proofs.Standing.{fails_at, label_count}
use Rattle.lf_candidates.proofs.given.LabelTexts.is_held_by.Goals as goal

pub returns-then-not-has_class : goal.returns-then-not-has_class
returns-then-not-has_class c = λ D stands.
    let u = c.args.universe.now in
    let test : Bytes → Bool = λ name. option_map_or (holds_text u c.args.row.now name) (D name) true in
    let less : c.loop-label.label < length u.named = omega (arith, c.loop-label-test.true, c.labels-label-end.ensures.count) in
    let fails : list_all test (labels_in u) ≡ false =
    fails_at test (labels_in u) [] c.loop-label.label (omega (arith, less, label_count u c.requires.universe))
    (sym (c.has_class.ensures D (subst (λ o. StandsAt u c.loop-label.label o D) (sym c.get.ensures) (stands.each c.loop-label.label less))) ∙ c.if-not-has_class.true) in
    sym (ap (λ (b : Bool). is_live c.args.row.now && b) fails ∙ and-false (is_live c.args.row.now))

pub loop-label-preserved : goal.loop-label-preserved
loop-label-preserved c = λ D stands.
    let u = c.args.universe.now in
    let test : Bytes → Bool = λ name. option_map_or (holds_text u c.args.row.now name) (D name) true in
    let less : c.loop-label.label < length u.named = omega (arith, c.loop-label-test.true, c.labels-label-end.ensures.count) in
    list_all_more test (labels_in u) c.loop-label.label [] (omega (arith, less, label_count u c.requires.universe))
    ∙ ap (λ (b : Bool). b && test (name_at u c.loop-label.label)) (c.loop-label.invariant D stands)
    ∙ (sym (c.has_class.ensures D (subst (λ o. StandsAt u c.loop-label.label o D) (sym c.get.ensures) (stands.each c.loop-label.label less))) ∙ c.if-not-has_class.false)

pub returns : goal.returns
returns c = λ D stands.
    let u = c.args.universe.now in
    let test : Bytes → Bool = λ name. option_map_or (holds_text u c.args.row.now name) (D name) true in
    let all : list_all test (labels_in u) ≡ true = ap (list_all test) (sym (take_all c.loop-label.label (labels_in u) (omega (arith, c.loop-label-test.false, c.labels-label-end.ensures.count, label_count u c.requires.universe)))) ∙ c.loop-label.invariant D stands in
    sym (ap (λ (b : Bool). is_live c.args.row.now && b) all ∙ and-true (is_live c.args.row.now) ∙ live (is_live c.args.row.now) (sym c.is_empty.ensures.empty ∙ c.if-is_empty.false))
  where
    live : (b : Bool) → not b ≡ false → b ≡ true
    live true e = refl
    live false e = absurd (true≢false e)
