use Rattle.std.proofs.Common.{Bool, false, List, Some, None, ◌⊎◌, inl, inr, sym, subst, arith}
use Rattle.std.specs.Prelude.{slice_set}
use Rattle.lf_ast.specs.Rules.{rule_tree, rule_trees}
use Rattle.lf_ast.specs.Labels.{Bytes}
use Rattle.lf_deps.proofs.RuleTrees.{tree_at}
use Rattle.lf_fix.specs.views.Dependents.{IsListed}
use Rattle.lf_fix.specs.views.Rounds.{StepTells}
use Rattle.lf_fix.proofs.Steps.{listed, selects, step_added, step_same}
use Rattle.lf_fix.proofs.solving.step.Goals as goal

pub returns-then-not-added : goal.returns-then-not-added
returns-then-not-added c =
    let u = c.args.universe.now in
    let dirty : List Bool = c.args.dirty.now in
    let P : Bool → Type 0 = λ b. StepTells u (rule_trees c.args.rules.now) c.args.k c.args.env.now c.raise.new.env dirty (slice_set dirty c.args.k false) b in
    subst P c.if-not-added.true
    (step_same u c.requires.listing (rule_trees c.args.rules.now) c.args.k c.args.env.now c.requires.of_rules dirty c.requires.hold (omega (arith, c.requires.rule, c.requires.marks)) c.raise.new.env c.in_ok-added.added c.in_ok-added.ensures
    c.if-not-added.true)

pub returns : goal.returns
returns c =
    let u = c.args.universe.now in
    let dirty : List Bool = c.args.dirty.now in
    let rule = rule_tree c.get.result.now in
    let index = c.args.dependents.now in
    let P : Bool → Type 0 = λ b. StepTells u (rule_trees c.args.rules.now) c.args.k c.args.env.now c.raise.new.env dirty c.invalidate.new.dirty b in
    subst P c.if-not-added.false
    (step_added u c.requires.listing (rule_trees c.args.rules.now) c.args.k c.args.env.now c.requires.of_rules dirty c.requires.hold (omega (arith, c.requires.rule, c.requires.marks)) c.raise.new.env c.in_ok-added.added c.in_ok-added.ensures
    rule (tree_at c.args.rules.now c.args.k c.get.result.now c.get.ensures.value) c.invalidate.new.dirty c.invalidate.ensures.kept
    (λ j r at looks. elim (listed (rule_trees c.args.rules.now) index j r rule.name c.requires.index at looks) [
      | inl l ↦ let Q : Bytes → Type 0 = λ n. IsListed index j (Some n) in c.invalidate.ensures.named j (subst Q (sym c.as_str.ensures) l)
      | inr l ↦ c.invalidate.ensures.all j l
    ])
    (λ j r at marked. elim (c.invalidate.ensures.only j marked) [
      | inl before ↦ inl before
      | inr l ↦ let L : Bytes → Type 0 = λ n. IsListed index j (Some n) ⊎ IsListed index j None in inr (selects (rule_trees c.args.rules.now) index j r rule.name c.requires.index at (subst L c.as_str.ensures l))
    ])
    c.if-not-added.false)
