use Rattle.std.proofs.Common.{arith, ◌<◌, length}
use Rattle.std.proofs.lemmas.Grind.{get_or_default_zero}
use Rattle.std.proofs.lemmas.List.Elements.{All-contains, AllWithin-more}
use Rattle.lf_runs.proofs.outcome.ask_steps.Goals as goal

pub loop-number-preserved : goal.loop-number-preserved
loop-number-preserved c = AllWithin-more (λ number. number < length c.args.rules.now) c.args.steps.now 0 c.loop-number.number-index c.loop-number.invariant (λ d. omega (arith, get_or_default_zero c.args.steps.now c.loop-number.number-index d c.loop-number-test.true))

pub returns : goal.returns
returns c = λ number among. All-contains (λ k. k < length c.args.rules.now) c.args.steps.now number (λ k d within. c.loop-number.invariant k d (omega arith) (omega arith)) among
