use Rattle.std.proofs.Common.{◌≡◌, inl, inr, ◌+◌, ◌++◌, List, [], ◌∷◌, append-nil, take, arith, sym, ap, ◌∙◌, subst}
use Rattle.std.specs.List.{Contains, flat_map}
use Rattle.std.proofs.lemmas.List.{take_all, take_more}
use Rattle.std.proofs.lemmas.List.Concat.{flat_map-append}
use Rattle.std.proofs.lemmas.List.Elements.{Contains-push_cases}
use Rattle.lf_laws.proofs.Members.{none_in}
use Rattle.lf_ast.specs.Labels.{Labels}
use Rattle.lf_semantics.specs.Texts.{HasTexts}
use Rattle.lf_strict.specs.views.Paired.{with_only}
use Rattle.lf_strict.proofs.Signatures.{has_texts}
use Rattle.lf_strict.proofs.partners.each_with.Goals as goal

pub loop-sample-init : goal.loop-sample-init
loop-sample-init c = (c.in_ok-made.ensures.items, λ s d. absurd (none_in s d))

pub loop-sample-preserved : goal.loop-sample-preserved
loop-sample-preserved c =
    let f = with_only c.args.op c.args.matching.now c.args.one.now in
    let xs : List Labels = c.args.many.now in
    let k = c.loop-sample.sample-index in
    let x : Labels = c.sample-item.result in
    let took : take (k + 1) xs ≡ take k xs ++ x ∷ [] = take_more xs k x c.loop-sample-test.true ∙ ap (λ (y : Labels). take k xs ++ y ∷ []) (sym c.sample-item.is) in
    let more : flat_map f (take (k + 1) xs) ≡ flat_map f (take k xs) ++ f x =
    ap (flat_map f) took ∙ flat_map-append f (take k xs) (x ∷ []) ∙ ap (λ (l : List Labels). flat_map f (take k xs) ++ l) (append-nil (f x)) in (
      c.in_ok-push_with.ensures.made ∙ ap (λ (l : List Labels). l ++ f x) c.loop-sample.invariant.0 ∙ sym more,
      λ s d. elim (Contains-push_cases (take k xs) x s (subst (λ (l : List Labels). Contains l s) took d)) [
        | inl old ↦ c.loop-sample.invariant.1 s old
        | inr new ↦ subst HasTexts new c.in_ok-push_with.ensures.texts
      ],
    )

pub returns-clause-made : goal.returns-clause-made
returns-clause-made c =
    c.loop-sample.invariant.0 ∙ ap (flat_map (with_only c.args.op c.args.matching.now c.args.one.now)) (take_all c.loop-sample.sample-index c.args.many.now (omega arith))

pub returns-clause-texts : goal.returns-clause-texts
returns-clause-texts c = λ s d. c.loop-sample.invariant.1 s (subst (λ (l : List Labels). Contains l s) (sym (take_all c.loop-sample.sample-index c.args.many.now (omega arith))) d)

pub returns-clause-one : goal.returns-clause-one
returns-clause-one c = has_texts c.args.one.now c.len-count.ensures.texts
