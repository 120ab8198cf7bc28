use Rattle.std.proofs.Common.{inl, List, [], ◌∷◌, Some, length, ◌≡◌, ◌∙◌, ap, sym, subst, arith}
use Rattle.std.specs.Prelude.{slice_get}
use Rattle.std.specs.BTreeMap.{get}
use Rattle.std.specs.List.{Contains, flat_map}
use Rattle.lf_ast.specs.Labels.{Labels}
use Rattle.lf_semantics.specs.Texts.{HasTexts}
use Rattle.lf_witness.specs.Ascending.{labels_cmp}
use Rattle.lf_witness.specs.Strict.{HasTwoAlike}
use Rattle.lf_strict.specs.views.Paired.{AreIndexed, FindsEach, IsIndex, with_found, with_one, with_only}
use Rattle.lf_strict.proofs.ManySide.{listed_pairs}
use Rattle.lf_strict.proofs.OnlyOne.{all_give, only, only_index}
use Rattle.lf_strict.proofs.pairs.many_to_one.Goals as goal

pub returns-in-None : goal.returns-in-None
returns-in-None c =
    let m = c.args.matching.now in
    inl (subst (λ (l : List Labels). HasTwoAlike m l) c.as_slice-2.ensures (subst (AreIndexed m c.as_slice-2.result.now) c.in-None.is c.in_ok-indexed.ensures))

pub returns-in_ok-made-in-Some : goal.returns-in_ok-made-in-Some
returns-in_ok-made-in-Some c =
    let op = c.args.op in
    let m = c.args.matching.now in
    let many : List Labels = c.args.many.now in
    let made : List Labels = c.in_ok-made-in-Some.made.items in
    let ones = c.in-Some.ones in
    let index : IsIndex m c.args.one.now ones = subst (λ (l : List Labels). IsIndex m l ones) c.as_slice-2.ensures (subst (AreIndexed m c.as_slice-2.result.now) c.in-Some.is c.in_ok-indexed.ensures) in
    let texts : (s : Labels) → Contains many s → HasTexts s = subst (λ (l : List Labels). (s : Labels) → Contains l s → HasTexts s) c.as_slice-in-Some.ensures c.in_ok-made-in-Some.ensures.texts in
    let is : made ≡ flat_map (with_one op m ones) many = c.in_ok-made-in-Some.ensures.made ∙ ap (flat_map (with_one op m ones)) c.as_slice-in-Some.ensures in
    listed_pairs op m many c.args.one.now made (get labels_cmp ones) index texts c.requires.many is c.apart-in-Some.result c.apart-in-Some.ensures

alone : (xs : List Labels) (x : Labels) → length xs ≡ 1 → slice_get xs 0 ≡ Some x → xs ≡ x ∷ []
alone [] x one at = absurd (cc)
alone (y ∷ []) x one at = ap (λ (z : Labels). z ∷ []) (let same : y ≡ x = cc in same)
alone (y ∷ z ∷ ys) x one at = absurd (omega (arith, one))

pub returns-then-len-eq1 : goal.returns-then-len-eq1
returns-then-len-eq1 c =
    let op = c.args.op in
    let m = c.args.matching.now in
    let many : List Labels = c.args.many.now in
    let one : List Labels = c.args.one.now in
    let t : Labels = c.get.result.now in
    let made : List Labels = c.in_ok-made.made.items in
    let is_one : one ≡ t ∷ [] = alone one t (sym c.len.ensures ∙ c.if-len-eq1.true) c.get.ensures.value in
    let index : FindsEach m one (only m t) = subst (λ (l : List Labels). FindsEach m l (only m t)) (sym is_one) (only_index m t c.in_ok-made.ensures.one) in
    let texts : (s : Labels) → Contains many s → HasTexts s = subst (λ (l : List Labels). (s : Labels) → Contains l s → HasTexts s) c.as_slice.ensures c.in_ok-made.ensures.texts in
    let is : made ≡ flat_map (with_found op m (only m t)) many = c.in_ok-made.ensures.made ∙ ap (flat_map (with_only op m t)) c.as_slice.ensures ∙ all_give m t op many in
    listed_pairs op m many one made (only m t) index texts c.requires.many is c.apart.result c.apart.ensures
