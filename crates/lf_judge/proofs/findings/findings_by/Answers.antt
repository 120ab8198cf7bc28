use Rattle.std.proofs.Common.{◌≡◌, ◌<◌, List, length, map, ap, sym, subst, ◌∙◌}
use Rattle.lf_ast.specs.Rules.{rule_trees}
use Rattle.lf_ast.specs.declared.verdict.Finding.{Finding}
use Rattle.lf_checks.specs.AlertTemplate.{HaveSources}
use Rattle.lf_checks.specs.Files.{StandIn}
use Rattle.lf_checks.specs.Findings.{AreFindings, AreFindingsIn}
use Rattle.lf_checks.specs.views.Checked.{CheckerView}
use Rattle.lf_checks.specs.views.Shown.{all_shown}
use Rattle.lf_semantics.specs.Environments.{IsLeast}
use Rattle.lf_judge.specs.Judged.{finding_told}
use Rattle.lf_judge.specs.views.AtHand.{files_at, rules_of_hand}
use Rattle.lf_judge.proofs.RowsAtHand.{of_checker}
use Rattle.lf_judge.proofs.findings.findings_by.Goals as goal

pub rule_by-requires-clause-sources : goal.rule_by-requires-clause-sources
rule_by-requires-clause-sources c =
    let same : rule_trees c.args.hand.now.checker.now.rules ≡ rules_of_hand c.args.hand.now = ap (λ (k : CheckerView). rule_trees k.rules) c.requires.ready.checker in
    subst HaveSources (sym same) c.requires.ready.sources

pub rule_by-requires-clause-least : goal.rule_by-requires-clause-least
rule_by-requires-clause-least c = let P : CheckerView → Type 0 = λ k. IsLeast k.universe (rule_trees k.rules) k.env in subst P (sym c.requires.ready.checker) c.requires.ready.least

pub rule_by-requires-clause-rule : goal.rule_by-requires-clause-rule
rule_by-requires-clause-rule c = let P : CheckerView → Type 0 = λ k. c.args.number < length k.rules in subst P (sym c.requires.ready.checker) c.requires.rule

pub rule_by-requires-clause-rows : goal.rule_by-requires-clause-rows
rule_by-requires-clause-rows c = of_checker c.args.hand.now c.requires.ready c.args.number c.args.rows.items c.requires.rows

pub returns : goal.returns
returns c =
    let hand = c.args.hand.now in
    let files = files_at hand in
    let rules = rules_of_hand hand in
    let env = hand.env.now in
    let found = c.in_ok-found.found in
    let same : rule_trees hand.checker.now.rules ≡ rules = ap (λ (k : CheckerView). rule_trees k.rules) c.requires.ready.checker in
    let P : CheckerView → Type 0 = λ k. AreFindingsIn files k.universe (rule_trees k.rules) k.env c.args.number (all_shown files (rule_trees k.rules) found) in
    let are : AreFindings files rules env c.args.number (all_shown files rules found) = subst P c.requires.ready.checker (c.in_ok-found.ensures.findings files (subst (StandIn files) (sym same) c.requires.ready.stand)) in
    (all_shown files rules found, are, c.in_ok-told.ensures ∙ ap (λ (l : List Finding). map finding_told (all_shown files rules l)) c.as_slice.ensures)
