use Rattle.std.proofs.Common.{◌+◌, Bool, sym, subst, arith}
use Rattle.lf_ast.specs.Rules.{rule_trees}
use Rattle.lf_deps.proofs.OrderLaws.{ordered_below}
use Rattle.lf_deps.proofs.RuleTrees.{trees_count}
use Rattle.lf_fix.specs.views.Rounds.{Tells}
use Rattle.lf_laws.proofs.Slices.{member_at}
use Rattle.lf_fix.proofs.Rounds.{tells_more}
use Rattle.lf_fix.proofs.solving.raise_all.Goals as goal

pub step-requires-clause-rule : goal.step-requires-clause-rule
step-requires-clause-rule c =
    let size = trees_count c.args.rules.now in
    let below = ordered_below (rule_trees c.args.rules.now) c.args.order.now c.requires.order c.get.result.now (member_at c.args.order.now c.loop-place.place c.get.result.now c.get.ensures.value) in
    omega (arith, size, below)

pub loop-place-preserved : goal.loop-place-preserved
loop-place-preserved c =
    let u = c.args.universe.now in
    let P : Bool → Type 0 = λ b. Tells u (rule_trees c.args.rules.now) c.args.order.now (c.loop-place.place + 1) c.args.env.now c.step.new.env c.step.new.dirty b in
    subst P (sym c.either-added.ensures)
    (tells_more u (rule_trees c.args.rules.now) c.args.order.now c.loop-place.place c.get.result.now c.args.env.now c.loop-place.env c.step.new.env c.loop-place.dirty c.step.new.dirty c.loop-place.added c.in_ok-one.one c.get.ensures.value c.loop-place.invariant c.in_ok-one.ensures)
