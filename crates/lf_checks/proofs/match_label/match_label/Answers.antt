use Rattle.std.proofs.Common.{List, [], sym, subst}
use Rattle.lf_ast.specs.Rules.{rule_tree}
use Rattle.lf_ast.specs.declared.verdict.Finding.{Finding as Row}
use Rattle.lf_checks.specs.MatchLabel.{IsFound}
use Rattle.lf_checks.specs.views.Shown.{ListsAlone}
use Rattle.lf_checks.proofs.Added.{adds_all}
use Rattle.lf_checks.proofs.MadeRows.{when_none, when_some}
use Rattle.lf_checks.proofs.SoughtLaws.{of_none}
use Rattle.lf_checks.proofs.match_label.match_label.Goals as goal

pub returns-in-Some : goal.returns-in-Some
returns-in-Some c env are = c.judge_if_sought.ensures env (when_some _ _ _ c.in-Some.is are)

pub returns-in-None : goal.returns-in-None
returns-in-None c env are =
    let u = c.args.universe.now in
    let r = rule_tree c.args.rule.now in
    subst (λ (l : List Row). ListsAlone (IsFound u env r) l) (sym c.new.ensures.items) (adds_all (IsFound u env r) [] (of_none u env r c.args.parts.now (when_none _ _ c.in-None.is c.requires.none) c.requires.parts))
