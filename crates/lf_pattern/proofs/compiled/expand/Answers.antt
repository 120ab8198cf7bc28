use Rattle.std.proofs.Common.{◌≡◌, ◌≤◌, ◌∙◌, sym, ap, refl, ℕ, zero, suc, [], Some}
use Rattle.std.proofs.lemmas.Bool.{cond-true, cond-false}
use Rattle.regex.specs.Patterns.{Re, find_str}
use Rattle.regex.specs.Replace.{bytes_of}
use Rattle.regex.specs.Strings.{captures_haystack}
use Rattle.lf_pattern.specs.views.Groups.{group_of_match}
use Rattle.lf_pattern.specs.Read.{finds, found_group}
use Rattle.lf_pattern.specs.reading.Replacement.{greatest}
use Rattle.lf_pattern.proofs.ReadLaws.{found_none, found_some, group_some, group_later, captured-text}
use Rattle.lf_pattern.proofs.ExpandLaws.{same_pieces, few_of_later}
use Rattle.lf_pattern.proofs.compiled.expand.Goals as goal

pub returns-in-None-clause-value : goal.returns-in-None-clause-value
returns-in-None-clause-value c = λ p source config read.
    let value = c.args.value.now in
    let none = ap (λ (re : Re). find_str re value 0) (sym c.in_ok-matcher.ensures.pattern) ∙ c.in-None.ensures.found in
    sym (cond-false (finds p value) _ _ (found_none c.args.regex.now p value source config read (λ k. (c.type_inv.value k).fits) none))

pub returns-clause-value : goal.returns-clause-value
returns-clause-value c = λ p source config read.
    let value = c.args.value.now in
    let f = c.in-Some.ensures.found in
    let some = ap (λ (re : Re). find_str re value 0) (sym c.in_ok-matcher.ensures.pattern) ∙ f.1 in
    let regex = c.args.regex.now in
    let bytes = λ (k : ℕ). (c.type_inv.value k).fits in
    let groups : (n : ℕ) → group_of_match value c.in-Some.captures n ≡ found_group p value n =
    λ n. elim n as (λ k. group_of_match value c.in-Some.captures k ≡ found_group p value k) [ zero ↦ refl | suc n ↦ group_later value c.in-Some.captures n ∙ captured-text c.in-Some.captures value f.0 (suc n) f.2 ∙ sym (group_some regex p value source config read bytes f.0 n some) ] in
    ap Some (c.in_ok-text-in-Some.ensures.text ∙ same_pieces (group_of_match value c.in-Some.captures) (found_group p value) groups c.args.pieces.now)
    ∙ sym (cond-true (finds p value) _ _ (found_some regex p value source config read bytes f.0 some))

pub returns-clause-few : goal.returns-clause-few
returns-clause-few c = λ p source config read n le.
    let value = c.args.value.now in
    let f = c.in-Some.ensures.found in
    let some = ap (λ (re : Re). find_str re value 0) (sym c.in_ok-matcher.ensures.pattern) ∙ f.1 in
    let later : (k : ℕ) → greatest ≤ suc k → found_group p value (suc k) ≡ [] =
    λ k high. group_some c.args.regex.now p value source config read (λ k. (c.type_inv.value k).fits) f.0 k some
    ∙ sym (captured-text c.in-Some.captures value f.0 (suc k) f.2)
    ∙ ap (bytes_of (captures_haystack c.in-Some.captures)) (c.in_ok-text-in-Some.ensures.few (suc k) high) in
    few_of_later (found_group p value) later n le
