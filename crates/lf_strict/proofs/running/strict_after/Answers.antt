use Rattle.std.proofs.Common.{◌<◌, ℕ, true, false, List, length, sym, subst}
use Rattle.std.specs.List.{Contains}
use Rattle.std.proofs.lemmas.Result.{IfOk-weaker}
use Rattle.lf_ast.specs.Labels.{Labels}
use Rattle.lf_ast.specs.Rules.{rule_trees}
use Rattle.lf_ast.specs.Tree.{tree}
use Rattle.lf_ast.specs.declared.rule.Rule.{Rule}
use Rattle.lf_witness.specs.StrictRuns.{rules_at}
use Rattle.lf_strict.proofs.AfterRuns.{answer_after, none_after, stretch}
use Rattle.lf_strict.proofs.running.strict_after.Goals as goal

pub run_steps-requires : goal.run_steps-requires
run_steps-requires c = λ k step. subst (λ (l : List Rule). k < length l) (sym c.as_slice.ensures) (c.requires k (subst (λ (l : List ℕ). Contains l k) c.as_slice-2.ensures step))

pub returns-then-branch : goal.returns-then-branch
returns-then-branch c =
    let W : List Labels = c.in_ok-store.store in
    let V : List Labels = c.run_steps.new.store in
    let rules : List Rule = c.args.rules.now in
    let steps : List ℕ = c.args.steps.now in
    let ran = stretch W V rules c.as_slice.result.now steps c.as_slice-2.result.now c.in_ok-run_steps.field-0 true c.as_slice.ensures c.as_slice-2.ensures c.if-branch.true c.in_ok-run_steps.ensures in
    IfOk-weaker c.evaluate.result _ _ (λ told is. answer_after c.args.series.now W V (rules_at (rule_trees rules) steps) (tree c.args.expr.now) c.in_ok-store.ensures ran told is) c.evaluate.ensures

pub returns : goal.returns
returns c =
    let W : List Labels = c.in_ok-store.store in
    let V : List Labels = c.run_steps.new.store in
    let rules : List Rule = c.args.rules.now in
    let steps : List ℕ = c.args.steps.now in
    let ran = stretch W V rules c.as_slice.result.now steps c.as_slice-2.result.now c.in_ok-run_steps.field-0 false c.as_slice.ensures c.as_slice-2.ensures c.if-branch.false c.in_ok-run_steps.ensures in
    none_after c.args.series.now W V (rules_at (rule_trees rules) steps) (tree c.args.expr.now) c.in_ok-store.ensures ran
