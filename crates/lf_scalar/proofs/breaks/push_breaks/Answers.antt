use Rattle.std.proofs.Common.{◌+◌}
use Rattle.lf_scalar.proofs.Walk.{walk-start, walk-inside, walk-on, left-next}
use Rattle.lf_scalar.proofs.BreaksRun.{ends-start, ends-next, ends-end}
use Rattle.lf_scalar.proofs.breaks.push_breaks.Goals as goal

pub loop-init : goal.loop-init
loop-init c = record { walk = walk-start c.args.at c.args.body.now c.args.count c.requires.within; ends = ends-start c.args.builder.now c.args.at c.args.body.now c.args.count }

pub line_from-end-requires : goal.line_from-end-requires
line_from-end-requires c = walk-inside c.args.at c.args.body.now c.args.count c.loop.counter c.loop.place c.loop.invariant.walk c.loop-test.true

pub loop-preserved : goal.loop-preserved
loop-preserved c = record {
  walk = walk-on c.args.at c.args.body.now c.args.count c.loop.counter c.loop.place c.loop.invariant.walk c.loop-test.true c.line_from-end.result.text c.line_from-end.result.feed (c.line_from-end.ensures.first c.args.at) c.line_from-end.ensures.within.1;
  ends = ends-next c.args.builder.now c.loop.builder c.push_break.new.builder c.args.at c.args.body.now c.args.count c.loop.counter c.loop.place (c.loop.place + (c.line_from-end.result.feed + 1)) c.line_from-end.result.text (c.loop.place + c.line_from-end.result.feed) c.break_at.result
      (left-next c.args.at c.args.body.now c.args.count c.loop.counter c.loop.place c.loop.invariant.walk c.loop-test.true c.line_from-end.result.text c.line_from-end.result.feed (c.line_from-end.ensures.first c.args.at))
      c.break_at.ensures c.in_ok-push_break.ensures c.loop.invariant.ends;
}

pub returns : goal.returns
returns c = ends-end c.args.builder.now c.loop.builder c.args.at c.args.body.now c.args.count c.loop.counter c.loop.place c.loop.invariant.ends c.loop-test.false
