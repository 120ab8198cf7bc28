use Rattle.std.proofs.Common.{◌≡◌, [], ◌∷◌, None, Some, IfSome, sym, ◌∙◌, subst, true≢false}
use Rattle.std.proofs.lemmas.Bool.{eq-eqb, eqb-true}
use Rattle.lf_pattern.specs.Plain.{HasAlternatives}
use Rattle.lf_checks.proofs.PatternLaws.{one_text}
use Rattle.lf_checks.proofs.promql_regexp.is_one_text.Goals as goal

pub returns-in-Some : goal.returns-in-Some
returns-in-Some c =
    let p = c.args.pattern.now in
    let one = one_text p c.in-Some.alternatives c.len.result c.len.ensures (subst (λ o. IfSome o (HasAlternatives p)) c.in-Some.is c.in_ok-alternatives.ensures.plain) (λ others h. sym c.in-Some.is ∙ c.in_ok-alternatives.ensures.only others h) in
    (λ t. one.0 (eqb-true c.len.result 1 t), λ h. eq-eqb c.len.result 1 (one.1 h))

pub returns-in-None : goal.returns-in-None
returns-in-None c = (λ t. absurd (true≢false (sym t)), λ h. absurd (let e : None ≡ Some (h.0 ∷ []) = sym c.in-None.is ∙ c.in_ok-alternatives.ensures.only (h.0 ∷ []) h.1 in cc))
