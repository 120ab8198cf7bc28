use Rattle.std.proofs.Common.{◌≡◌, ◌<◌, ◌++◌, ◌∷◌, [], ℕ, suc, true, false, List, Some, None, drop, get_or, length, take, sym, ap, ◌∙◌, subst}
use Rattle.std.specs.List.{Contains}
use Rattle.std.specs.Prelude.{slice_get}
use Rattle.std.specs.Option.{option_map}
use Rattle.std.proofs.lemmas.Option.{get_or_from_slice_get, slice_get-get_or, slice_get-map}
use Rattle.lf_ast.specs.Labels.{Labels}
use Rattle.lf_ast.specs.Rules.{RuleTree, rule_tree, rule_trees}
use Rattle.lf_ast.specs.declared.rule.Rule.{Rule}
use Rattle.lf_witness.specs.StrictRuns.{StrictlyStored, rules_at}
use Rattle.lf_strict.specs.views.Running.{IsStep, IsStretch}
use Rattle.lf_strict.proofs.Runs.{rules_at_more, rules_at_whole, step_more, step_none}
use Rattle.lf_strict.proofs.running.run_steps.Goals as goal

-- the place of a step, read with itself in place of a default
itself : (steps : List ℕ) (k : ℕ) → k < length steps → get_or steps k 0 ≡ get_or steps k (get_or steps k 0)
itself steps k lt = sym (get_or_from_slice_get steps k (get_or steps k 0) (get_or steps k 0) (slice_get-get_or steps k 0 lt))

-- the rule at a place
rule_at : (rules : List Rule) (place : ℕ) (r : Rule) → place < length rules → r ≡ get_or rules place r → slice_get (rule_trees rules) place ≡ Some (rule_tree r)
rule_at rules place r lt is = slice_get-map rule_tree rules place ∙ ap (option_map rule_tree) (slice_get-get_or rules place r lt ∙ ap Some (sym is))

within : (rules : List Rule) (steps : List ℕ) → ((k : ℕ) → Contains steps k → k < length rules) → (k : ℕ) → k < length steps → get_or steps k 0 < length rules
within rules steps each k lt = each (get_or steps k 0) (k, lt, sym (itself steps k lt))

pub bounds-rules-place : goal.bounds-rules-place
bounds-rules-place c = within c.args.rules.now c.args.steps.now c.requires c.loop-place.place-index c.loop-place-test.true

pub returns-then-not-branch : goal.returns-then-not-branch
returns-then-not-branch c =
    let trees = rule_trees c.args.rules.now in
    let steps : List ℕ = c.args.steps.now in
    let k = c.loop-place.place-index in
    let place = get_or steps k 0 in
    let lt = c.loop-place-test.true in
    let W : List Labels = c.args.store.now in
    let V : List Labels = c.loop-place.store in
    let U : List Labels = c.step.new.store in
    let r = rule_tree c.index-rules-place.result in
    let at : slice_get trees place ≡ Some r = rule_at c.args.rules.now place c.index-rules-place.result (within c.args.rules.now steps c.requires k lt) c.index-rules-place.is in
    let none : IsStep V r U false = subst (IsStep V r U) c.if-not-branch.true c.in_ok-step.ensures in
    subst (λ (l : List RuleTree). StrictlyStored W l None) (rules_at_whole trees steps k place r lt (itself steps k lt) at)
    (step_none W V U (rules_at trees (take k steps)) (rules_at trees (drop (suc k) steps)) r c.loop-place.invariant none)

pub loop-place-preserved : goal.loop-place-preserved
loop-place-preserved c =
    let trees = rule_trees c.args.rules.now in
    let steps : List ℕ = c.args.steps.now in
    let k = c.loop-place.place-index in
    let place = get_or steps k 0 in
    let lt = c.loop-place-test.true in
    let W : List Labels = c.args.store.now in
    let V : List Labels = c.loop-place.store in
    let U : List Labels = c.step.new.store in
    let r = rule_tree c.index-rules-place.result in
    let at : slice_get trees place ≡ Some r = rule_at c.args.rules.now place c.index-rules-place.result (within c.args.rules.now steps c.requires k lt) c.index-rules-place.is in
    let went : IsStep V r U true = subst (IsStep V r U) c.if-not-branch.false c.in_ok-step.ensures in
    let more : IsStretch W (rules_at trees (take k steps) ++ r ∷ []) U true = step_more W V U (rules_at trees (take k steps)) r c.loop-place.invariant went in
    subst (λ (l : List RuleTree). IsStretch W l U true) (sym (rules_at_more trees steps k place r lt (itself steps k lt) at)) more
