use Rattle.std.proofs.Common.{◌∙◌}
use Rattle.lf_ast.specs.Rules.{rule_trees}
use Rattle.lf_fix.proofs.Rounds.{least_of, rises_more}
use Rattle.lf_fix.proofs.solving.rounds.Goals as goal

pub loop-env-init : goal.loop-env-init
loop-env-init c = (c.requires.rises, c.requires.hold, c.requires.marks)

pub loop-env-preserved : goal.loop-env-preserved
loop-env-preserved c = (
  rises_more c.args.universe.now c.requires.listing (rule_trees c.args.rules.now) c.args.order.now c.loop-env.env c.raise_all.new.env c.raise_all.new.dirty c.in_ok-added.added c.loop-env.invariant.0 c.in_ok-added.ensures,
  c.in_ok-added.ensures.hold,
  c.raise_all.auto.dirty ∙ c.loop-env.invariant.2,
)

pub loop-env-smaller : goal.loop-env-smaller
loop-env-smaller c = c.in_ok-added.ensures.less c.if-not-added.false

pub returns-then-not-added : goal.returns-then-not-added
returns-then-not-added c =
    least_of c.args.universe.now c.requires.listing (rule_trees c.args.rules.now) c.args.order.now c.loop-env.env c.raise_all.new.env c.raise_all.new.dirty c.in_ok-added.added c.requires.order c.loop-env.invariant.0 c.in_ok-added.ensures c.if-not-added.true
