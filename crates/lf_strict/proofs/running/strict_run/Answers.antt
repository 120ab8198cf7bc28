use Rattle.std.proofs.Common.{◌<◌, ℕ, true, false, List, Some, None, length, sym, subst}
use Rattle.std.specs.List.{Contains}
use Rattle.lf_ast.specs.Labels.{Labels}
use Rattle.lf_ast.specs.Rules.{rule_trees}
use Rattle.lf_ast.specs.declared.rule.Rule.{Rule}
use Rattle.lf_witness.proofs.Answers.{one_run_answer}
use Rattle.lf_witness.specs.StrictRuns.{IsRunAnswer, rules_at}
use Rattle.lf_strict.proofs.AfterRuns.{stretch}
use Rattle.lf_strict.proofs.Runs.{run_answer, run_none, world_run}
use Rattle.lf_strict.proofs.running.strict_run.Goals as goal

pub run_steps-requires : goal.run_steps-requires
run_steps-requires c = λ k step. subst (λ (l : List Rule). k < length l) (sym c.as_slice.ensures) (c.requires k (subst (λ (l : List ℕ). Contains l k) c.as_slice-2.ensures step))

pub returns-then-branch-clause-answer : goal.returns-then-branch-clause-answer
returns-then-branch-clause-answer c =
    let W : List Labels = c.in_ok-store.store in
    let V : List Labels = c.run_steps.new.store in
    let rules : List Rule = c.args.rules.now in
    let steps : List ℕ = c.args.steps.now in
    let ran = stretch W V rules c.as_slice.result.now steps c.as_slice-2.result.now c.in_ok-run_steps.field-0 true c.as_slice.ensures c.as_slice-2.ensures c.if-branch.true c.in_ok-run_steps.ensures in
    subst (λ (l : List Labels). IsRunAnswer c.args.series.now (rules_at (rule_trees rules) steps) (Some l)) (sym c.in_ok-all.ensures)
    (run_answer c.args.series.now W V (rules_at (rule_trees rules) steps) c.in_ok-in_order.field-0 c.in_ok-store.ensures ran c.in_ok-in_order.ensures.same c.in_ok-in_order.ensures.ascends)

pub returns-then-branch-clause-only : goal.returns-then-branch-clause-only
returns-then-branch-clause-only c = λ answer is. one_run_answer c.args.series.now (rules_at (rule_trees c.args.rules.now) c.args.steps.now) (Some c.in_ok-all.all) answer (returns-then-branch-clause-answer c) is

pub returns-then-branch-clause-world : goal.returns-then-branch-clause-world
returns-then-branch-clause-world c = λ scraped. world_run (rule_trees c.args.rules.now) c.args.series.now c.args.steps.now scraped (Some c.in_ok-all.all) (returns-then-branch-clause-answer c)

pub returns-clause-answer : goal.returns-clause-answer
returns-clause-answer c =
    let W : List Labels = c.in_ok-store.store in
    let V : List Labels = c.run_steps.new.store in
    let rules : List Rule = c.args.rules.now in
    let steps : List ℕ = c.args.steps.now in
    let ran = stretch W V rules c.as_slice.result.now steps c.as_slice-2.result.now c.in_ok-run_steps.field-0 false c.as_slice.ensures c.as_slice-2.ensures c.if-branch.false c.in_ok-run_steps.ensures in
    run_none c.args.series.now W V (rules_at (rule_trees rules) steps) c.in_ok-store.ensures ran

pub returns-clause-only : goal.returns-clause-only
returns-clause-only c = λ answer is. one_run_answer c.args.series.now (rules_at (rule_trees c.args.rules.now) c.args.steps.now) None answer (returns-clause-answer c) is
