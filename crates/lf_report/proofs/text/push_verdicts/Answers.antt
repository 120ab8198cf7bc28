use Rattle.std.proofs.Common.{[], ◌∷◌, length, subst}
use Rattle.std.proofs.lemmas.Result.{on_ok_weaker}
use Rattle.lf_report.specs.Numbers.{NameRulesBelow, labels_of}
use Rattle.lf_report.specs.Text.{rule_line, said_lines}
use Rattle.lf_report.proofs.Appends.{appended_lines}
use Rattle.lf_report.proofs.text.push_verdicts.Goals as goal

pub push_said-requires-clause-rules : goal.push_said-requires-clause-rules
push_said-requires-clause-rules c = subst (λ v. NameRulesBelow (length c.args.report.now.rules) (labels_of v)) c.in-Some.is c.requires.rules

pub returns-in_ok-push_head-in-Some : goal.returns-in_ok-push_head-in-Some
returns-in_ok-push_head-in-Some c = λ it e.
    on_ok_weaker c.push_said.result
    (λ f. rw c.in-Some.is (appended_lines c.args.text.now (rule_line it c.args.rule.now ∷ []) (said_lines c.args.report.now _) (c.in_ok-push_head-in-Some.ensures it e) f))
    c.push_said.ensures
