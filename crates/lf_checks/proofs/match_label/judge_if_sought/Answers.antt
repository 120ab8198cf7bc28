use Rattle.std.proofs.Common.{◌∙◌, List, [], sym, subst}
use Rattle.lf_ast.specs.Rules.{rule_tree}
use Rattle.lf_ast.specs.declared.verdict.Finding.{Finding as Row}
use Rattle.lf_checks.specs.MatchLabel.{IsFound}
use Rattle.lf_checks.specs.views.Shown.{ListsAlone}
use Rattle.std.proofs.lemmas.Result.{IfOk-weaker}
use Rattle.lf_checks.proofs.Added.{adds_all}
use Rattle.lf_checks.proofs.SoughtLaws.{of_none, of_rule}
use Rattle.lf_checks.proofs.match_label.judge_if_sought.Goals as goal

pub returns-then-any_seeks : goal.returns-then-any_seeks
returns-then-any_seeks c env are =
    let u = c.args.universe.now in
    let r = rule_tree c.args.rule.now in
    IfOk-weaker c.judge_nodes.result _ _ (λ found a. adds_all (IsFound u env r) found.items (of_rule u env r found.items a)) (c.judge_nodes.ensures env are)

pub returns-else-any_seeks : goal.returns-else-any_seeks
returns-else-any_seeks c env are =
    let u = c.args.universe.now in
    let r = rule_tree c.args.rule.now in
    subst (λ (l : List Row). ListsAlone (IsFound u env r) l) (sym c.new.ensures.items) (adds_all (IsFound u env r) [] (of_none u env r c.args.parts.now (sym c.any_seeks.ensures ∙ c.if-any_seeks.false) c.requires.parts))
