use Rattle.std.proofs.Common.{◌++◌, ap, ◌∙◌}
use Rattle.std.specs.Prelude.{codes}
use Rattle.lf_ast.specs.Labels.{Bytes}
use Rattle.lf_checks.proofs.Wordings.{last_check, later_dependency, later_pattern, later_template, on_operand, removed, replaced, told}
use Rattle.lf_checks.proofs.texts.text_of.Goals as goal

pub returns-in-2-default : goal.returns-in-2-default
returns-in-2-default c =
    let f = c.args.finding.now in
    told c.of-in-2-default.result _ _ c.of-in-2-default.ensures (later_template f.check f.case f.label c.args.place.now c.in-2-default.is-0 c.in-2-default.is-1.1)

pub returns-in-4-default : goal.returns-in-4-default
returns-in-4-default c =
    let f = c.args.finding.now in
    told c.within-in-4-default.result _ _ c.within-in-4-default.ensures
    (ap (λ (l : Bytes). l ++ codes " is read in its own making") c.as_str-label.ensures ∙ later_dependency f.check f.case f.label c.args.place.now c.in-4-default.is-0 c.in-4-default.is-1.1)

pub returns-in-5-default : goal.returns-in-5-default
returns-in-5-default c =
    let f = c.args.finding.now in
    told c.of-in-5-default.result _ _ c.of-in-5-default.ensures (later_pattern f.check f.case f.label c.args.place.now c.in-5-default.is-0 c.in-5-default.is-1.1)

pub returns-in-6-default : goal.returns-in-6-default
returns-in-6-default c =
    let f = c.args.finding.now in
    told c.within-in-6-default.result _ _ c.within-in-6-default.ensures
    (ap (λ (l : Bytes). codes "label " ++ (l ++ codes " is never on the operand")) c.as_str-label.ensures ∙ on_operand f.check f.case f.label c.args.place.now c.in-6-default.is-0)

pub returns-in_default-eq0 : goal.returns-in_default-eq0
returns-in_default-eq0 c =
    let f = c.args.finding.now in
    let no = c.in_default-eq0.is-0 in
    let last = last_check f.check no.0.0.0.0.0.0.0.1 no.0.0.0.0.0.0.1 no.0.0.0.0.0.1 no.0.0.0.0.1 no.0.0.0.1 no.0.0.1 no.0.1 no.1 in
    told c.within-in_default-eq0.result _ _ c.within-in_default-eq0.ensures
    (ap (λ (l : Bytes). codes "label " ++ (l ++ codes " replaces one that each sample has")) c.as_str-label.ensures ∙ replaced f.check f.case f.label c.args.place.now last c.in_default-eq0.is-1)

pub returns-in_default : goal.returns-in_default
returns-in_default c =
    let f = c.args.finding.now in
    let no = c.in_default.is-0 in
    let last = last_check f.check no.0.0.0.0.0.0.0.1 no.0.0.0.0.0.0.1 no.0.0.0.0.0.1 no.0.0.0.0.1 no.0.0.0.1 no.0.0.1 no.0.1 no.1 in
    told c.within-in_default.result _ _ c.within-in_default.ensures
    (ap (λ (l : Bytes). codes "label " ++ (l ++ codes " is removed but on no sample")) c.as_str-label.ensures ∙ removed f.check f.case f.label c.args.place.now last c.in_default.is-1.1)
