use Rattle.std.proofs.Common.{arith, ◌+◌, refl}
use Rattle.lf_cases.proofs.CountsUp.{counts_up-grown, counts_up-rises}
use Rattle.lf_cases.proofs.offsets.plain_offsets.Goals as goal

pub loop-offset-preserved : goal.loop-offset-preserved
loop-offset-preserved c = counts_up-grown c.loop-offset.from c.push.new.self c.loop-offset.offset c.loop-offset.offset c.loop-offset.invariant refl c.in_ok-push.ensures.ok

pub returns-clause-count : goal.returns-clause-count
returns-clause-count c =
    let all = counts_up-grown c.loop-offset.from c.push-2.new.self c.loop-offset.offset c.args.len c.loop-offset.invariant (omega arith) c.in_ok-push-2.ensures.ok in
    all.0

pub returns-clause-each : goal.returns-clause-each
returns-clause-each c =
    let all = counts_up-grown c.loop-offset.from c.push-2.new.self c.loop-offset.offset c.args.len c.loop-offset.invariant (omega arith) c.in_ok-push-2.ensures.ok in
    λ k le. all.1 k (omega arith)

pub returns-clause-rises : goal.returns-clause-rises
returns-clause-rises c =
    let all = counts_up-grown c.loop-offset.from c.push-2.new.self c.loop-offset.offset c.args.len c.loop-offset.invariant (omega arith) c.in_ok-push-2.ensures.ok in
    counts_up-rises c.push-2.new.self (c.args.len + 1) all
