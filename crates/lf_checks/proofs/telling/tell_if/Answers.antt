use Rattle.std.proofs.Common.{refl, sym, ap, ◌∙◌, subst}
use Rattle.lf_ast.specs.declared.verdict.Finding.{Finding as Row}
use Rattle.lf_checks.specs.Numbers.{HasNumbers}
use Rattle.lf_checks.specs.views.Shown.{shown}
use Rattle.lf_checks.proofs.Added.{adds_one}
use Rattle.lf_checks.proofs.Lists.{case_numbered, case_shown}
use Rattle.lf_checks.proofs.telling.tell_if.Goals as goal

pub returns-in_ok-push : goal.returns-in_ok-push
returns-in_ok-push c =
    let row : Row = c.in_ok-at.field-0 in
    adds_one _ c.args.found.now.items c.push.new.self.items row _ c.in_ok-push.ensures.items
    (λ files rules. ap (shown files rules) c.in_ok-at.ensures ∙ case_shown c.args.case c.args.span c.args.label.now files rules)
    (λ files rules i. subst (λ (f : Row). HasNumbers rules i (shown files rules f) f) (sym c.in_ok-at.ensures) (case_numbered c.args.case c.args.span c.args.label.now c.requires files rules i))
    (c.if-holds.true, refl) (λ g h. h.1)
