use Rattle.lf_worlds.specs.views.Told.{label_verdict}
use Rattle.lf_judge.specs.Judged.{verdict_told}
use Rattle.lf_judge.proofs.Places.{moved_all, moved_more}
use Rattle.lf_judge.proofs.verdicts.each_told.Goals as goal

pub loop-verdict-preserved : goal.loop-verdict-preserved
loop-verdict-preserved c = λ r e.
    moved_more (λ v. verdict_told c.args.first c.args.number r (label_verdict v)) c.loop-verdict.told c.push.new.self _ c.loop-verdict.taken c.pop.new.self c.in-Some.verdict c.label_told.result c.in-Some.ensures.some
    (c.label_told.ensures r e) c.in_ok-push.ensures.ok (c.loop-verdict.invariant r e)

pub returns : goal.returns
returns c = λ r e.
    moved_all (λ v. verdict_told c.args.first c.args.number r (label_verdict v)) c.loop-verdict.told c.loop-verdict.taken c.in_ok-taken.taken c.args.known c.in_default.ensures.none.0 c.in_ok-taken.ensures (c.loop-verdict.invariant r e)
