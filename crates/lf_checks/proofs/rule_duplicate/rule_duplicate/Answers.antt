use Rattle.std.proofs.Common.{◌≡◌, ◌∷◌, [], ◌++◌, List, take, sym, ap, ◌∙◌, subst}
use Rattle.lf_ast.specs.Rules.{rule_tree}
use Rattle.lf_ast.specs.declared.verdict.Finding.{Finding as Row}
use Rattle.lf_checks.specs.RuleDuplicate.{IsFound}
use Rattle.lf_checks.specs.views.Cases.{same_row}
use Rattle.lf_checks.specs.views.Duplicates.{IsFirstOf}
use Rattle.lf_checks.specs.views.Shown.{AreNumbered, Lists}
use Rattle.lf_checks.proofs.DuplicateLaws.{first_numbered, tells_first, tells_none}
use Rattle.lf_checks.proofs.Lists.{numbered_none}
use Rattle.lf_checks.proofs.rule_duplicate.rule_duplicate.Goals as goal

pub returns-in_ok-push-in-Some-clause-findings : goal.returns-in_ok-push-in-Some-clause-findings
returns-in_ok-push-in-Some-clause-findings c files rules i stand at first =
    let r = rule_tree c.args.rule.now in
    let row = c.in_ok-same_rule-in-Some.field-0 in
    let items : c.push.new.self.items ≡ row ∷ [] = c.in_ok-push-in-Some.ensures.items ∙ ap (λ (l : List Row). l ++ row ∷ []) c.new-found.ensures.items in
    subst (λ (l : List Row). Lists files rules (IsFound files rules i r) l) (sym items)
    (tells_first files rules i r stand c.in-Some.first row (subst (λ o. IsFirstOf (take i rules) r o) c.in-Some.is first) c.in_ok-same_rule-in-Some.ensures)

pub returns-in_ok-push-in-Some-clause-numbers : goal.returns-in_ok-push-in-Some-clause-numbers
returns-in_ok-push-in-Some-clause-numbers c files rules i at first =
    let r = rule_tree c.args.rule.now in
    let j = c.in-Some.first in
    let row : Row = same_row r.name_span j in
    let items : c.push.new.self.items ≡ row ∷ [] = c.in_ok-push-in-Some.ensures.items ∙ ap (λ (l : List Row). l ++ c.in_ok-same_rule-in-Some.field-0 ∷ []) c.new-found.ensures.items ∙ ap (λ (f : Row). f ∷ []) c.in_ok-same_rule-in-Some.ensures in
    subst (λ (l : List Row). AreNumbered files rules i l) (sym items)
    (first_numbered files rules i r j at (subst (λ o. IsFirstOf (take i rules) r o) c.in-Some.is first))

pub returns-in-None-clause-findings : goal.returns-in-None-clause-findings
returns-in-None-clause-findings c files rules i stand at first =
    let r = rule_tree c.args.rule.now in
    subst (λ (l : List Row). Lists files rules (IsFound files rules i r) l) (sym c.new-found.ensures.items) (tells_none files rules i r stand (subst (λ o. IsFirstOf (take i rules) r o) c.in-None.is first))

pub returns-in-None-clause-numbers : goal.returns-in-None-clause-numbers
returns-in-None-clause-numbers c files rules i at first = subst (λ (l : List Row). AreNumbered files rules i l) (sym c.new-found.ensures.items) (numbered_none files rules i)
