use Rattle.std.proofs.Common.{◌≡◌, Err, List, [], ◌∷◌, subst}
use Rattle.std.proofs.lemmas.Result.{IfOk-weaker}
use Rattle.lf_laws.specs.Gaining.{OfSome}
use Rattle.lf_base.specs.Answers.{Breach, IfAt, Only}
use Rattle.lf_base.specs.declared.refusal.Refusal.{Refusal}
use Rattle.lf_ast.specs.declared.rule.Template.{Template}
use Rattle.lf_ast.specs.declared.verdict.Finding.{Finding as Row}
use Rattle.lf_templates.specs.Templates.{Breaks, References}
use Rattle.lf_templates.specs.declared.reference.Reference.{Reference}
use Rattle.lf_checks.specs.declared.case.Case.{Case}
use Rattle.lf_checks.specs.views.Cases.{row_of}
use Rattle.lf_checks.specs.views.Shown.{ListsAlone}
use Rattle.lf_checks.specs.views.TemplateCases.{IsOfReference, IsOfTemplate}
use Rattle.lf_checks.proofs.TemplateCases.{of_broken, of_sound}
use Rattle.lf_checks.proofs.alert_template.of_template.Goals as goal

pub returns-in-Ok : goal.returns-in-Ok
returns-in-Ok c =
    let u = c.args.universe.now in
    let row = c.args.row.now in
    let t : Template = c.args.template.now in
    let references : List Reference = c.in-Ok.found in
    let P : List Reference → List Row → Type 0 = λ rs found. ListsAlone (OfSome (IsOfReference u row) rs) found in
    let Q : List Row → Type 0 = λ found. ListsAlone (IsOfTemplate u row t) found in
    IfOk-weaker c.of_references.result (λ found. P c.as_slice.result.now found.items) (λ found. Q found.items)
    (λ found h. of_sound u row t references c.in-Ok.ensures.found c.in-Ok.ensures.only c.in-Ok.ensures.breach found.items
    (let S : List Reference → Type 0 = λ rs. P rs found.items in subst S c.as_slice.ensures h))
    c.of_references.ensures

pub returns-in-Err-At : goal.returns-in-Err-At
returns-in-Err-At c =
    let u = c.args.universe.now in
    let row = c.args.row.now in
    let t : Template = c.args.template.now in
    let is = c.in-Err-At.field-0-is in
    let O : Refusal → Type 0 = λ r. Only {X = List Reference} (λ z. z) (References t.from t.text) (Err r) in
    let B : Refusal → Type 0 = λ r. Breach {X = List Reference} (λ z. z) (Breaks t.from t.text) (Err r) in
    let R : Refusal → Type 0 = λ r. IfAt r (Breaks t.from t.text) in
    IfOk-weaker c.found_if.result (λ found. found.items ≡ row_of Case.UnreadableTemplate c.in-Err-At.span [] ∷ [])
    (λ found. ListsAlone (IsOfTemplate u row t) found.items)
    (λ found h. of_broken u row t c.in-Err-At.field-0-0 c.in-Err-At.span (subst R is c.in-Err-At.ensures.refused) (subst O is c.in-Err-At.ensures.only) (subst B is c.in-Err-At.ensures.breach) found.items h)
    c.found_if.ensures
