use Rattle.std.proofs.Common.{◌≡◌, None, Some, sym, subst}
use Rattle.lf_ast.specs.Selectors.{selected_name}
use Rattle.lf_ast.specs.Tree.{tree}
use Rattle.lf_checks.specs.views.Adding.{Adds}
use Rattle.lf_checks.specs.views.Recorded.{IsOfSelector}
use Rattle.std.proofs.lemmas.Result.{on_ok_weaker}
use Rattle.lf_checks.proofs.RecordedLaws.{of_nameless, of_selector}
use Rattle.lf_checks.proofs.rule_dependency.judge_part.Goals as goal

pub returns-in-Some : goal.returns-in-Some
returns-in-Some c rules are =
    let old = c.args.found.now.items in
    let new = c.judge_name.new.found.items in
    let s = c.in-Selector in
    let is = subst (λ matchers. selected_name s.name matchers ≡ Some c.in-Some.name.now) c.as_slice.ensures (sym c.in-Some.ensures) in
    on_ok_weaker c.judge_name.result
    (λ a. subst (λ e. Adds (IsOfSelector rules (tree e)) old new) (sym s.is) (of_selector rules s.name s.matchers s.sight s.span c.in-Some.name.now old new is a))
    (c.judge_name.ensures rules are)

pub returns-in-None : goal.returns-in-None
returns-in-None c rules are =
    let old = c.args.found.now.items in
    let s = c.in-Selector in
    let is = subst (λ matchers. selected_name s.name matchers ≡ None) c.as_slice.ensures (sym c.in-None.ensures) in
    subst (λ e. Adds (IsOfSelector rules (tree e)) old old) (sym s.is) (of_nameless rules s.name s.matchers s.sight s.span old is)
