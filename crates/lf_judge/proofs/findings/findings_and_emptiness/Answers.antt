use Rattle.std.proofs.Common.{◌≡◌, ◌<◌, List, Some, not, length, map, ap, sym, subst, ◌∙◌}
use Rattle.std.specs.Prelude.{slice_get}
use Rattle.lf_ast.specs.Rules.{RuleTree, rule_trees}
use Rattle.lf_ast.specs.declared.verdict.Finding.{Finding}
use Rattle.lf_checks.specs.AlertTemplate.{HaveSources}
use Rattle.lf_checks.specs.Files.{StandIn}
use Rattle.lf_checks.specs.Findings.{AreFindings, AreFindingsIn}
use Rattle.lf_checks.specs.views.Checked.{CheckerView}
use Rattle.lf_checks.specs.views.Shown.{all_shown}
use Rattle.lf_semantics.specs.Environments.{IsLeast, rule_row}
use Rattle.lf_semantics.specs.ClassRows.{is_live}
use Rattle.lf_judge.specs.Judged.{finding_told}
use Rattle.lf_judge.specs.views.AtHand.{files_at, rules_of_hand}
use Rattle.lf_judge.proofs.Called.{tells_empty}
use Rattle.lf_judge.proofs.findings.findings_and_emptiness.Goals as goal

pub rule_and_emptiness-requires-clause-sources : goal.rule_and_emptiness-requires-clause-sources
rule_and_emptiness-requires-clause-sources c =
    let same : rule_trees c.args.hand.now.checker.now.rules ≡ rules_of_hand c.args.hand.now = ap (λ (k : CheckerView). rule_trees k.rules) c.requires.ready.checker in
    subst HaveSources (sym same) c.requires.ready.sources

pub rule_and_emptiness-requires-clause-least : goal.rule_and_emptiness-requires-clause-least
rule_and_emptiness-requires-clause-least c = let P : CheckerView → Type 0 = λ k. IsLeast k.universe (rule_trees k.rules) k.env in subst P (sym c.requires.ready.checker) c.requires.ready.least

pub rule_and_emptiness-requires-clause-rule : goal.rule_and_emptiness-requires-clause-rule
rule_and_emptiness-requires-clause-rule c = let P : CheckerView → Type 0 = λ k. c.args.number < length k.rules in subst P (sym c.requires.ready.checker) c.requires.rule

pub returns-clause-findings : goal.returns-clause-findings
returns-clause-findings c =
    let hand = c.args.hand.now in
    let files = files_at hand in
    let rules = rules_of_hand hand in
    let env = hand.env.now in
    let found = c.in_ok-found.found in
    let same : rule_trees hand.checker.now.rules ≡ rules = ap (λ (k : CheckerView). rule_trees k.rules) c.requires.ready.checker in
    let P : CheckerView → Type 0 = λ k. AreFindingsIn files k.universe (rule_trees k.rules) k.env c.args.number (all_shown files (rule_trees k.rules) found) in
    let are : AreFindings files rules env c.args.number (all_shown files rules found) = subst P c.requires.ready.checker (c.in_ok-found.ensures.findings files (subst (StandIn files) (sym same) c.requires.ready.stand)) in
    (all_shown files rules found, are, c.in_ok-told.ensures ∙ ap (λ (l : List Finding). map finding_told (all_shown files rules l)) c.as_slice.ensures)

pub returns-clause-empty : goal.returns-clause-empty
returns-clause-empty c r at =
    let hand = c.args.hand.now in
    let P : CheckerView → Type 0 = λ k. (r : RuleTree) → slice_get (rule_trees k.rules) c.args.number ≡ Some r → c.in_ok-found.empty ≡ not (is_live (rule_row k.universe k.env r)) in
    tells_empty (rules_of_hand hand) hand.env.now c.args.number r c.in_ok-found.empty at (subst P c.requires.ready.checker c.in_ok-found.ensures.empty r at)
