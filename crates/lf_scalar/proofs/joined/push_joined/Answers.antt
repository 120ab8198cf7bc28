use Rattle.std.proofs.Common.{arith, ◌+◌, length, ◌<◌}
use Rattle.lf_scalar.proofs.Walk.{walk-start, walk-inside, walk-on, left-next}
use Rattle.lf_scalar.proofs.FoldedRun.{few-below}
use Rattle.lf_scalar.proofs.JoinedRun.{joins-start, joins-next, joins-end}
use Rattle.lf_scalar.proofs.joined.push_joined.Goals as goal

pub loop-init : goal.loop-init
loop-init c = record { walk = walk-start c.args.at c.args.body.now c.args.count c.requires.within; few = tt; joins = joins-start c.args.joining c.args.indent c.args.builder.now c.args.at c.args.body.now c.args.count }

pub line_from-end-requires : goal.line_from-end-requires
line_from-end-requires c = walk-inside c.args.at c.args.body.now c.args.count c.loop.counter c.loop.place c.loop.invariant.walk c.loop-test.true

pub push_line-requires-clause-few : goal.push_line-requires-clause-few
push_line-requires-clause-few c =
    let lt : c.loop.place < length c.args.body.now = walk-inside c.args.at c.args.body.now c.args.count c.loop.counter c.loop.place c.loop.invariant.walk c.loop-test.true in
    few-below c.loop.last c.loop.counter _ c.loop.invariant.few (omega (arith, c.loop.invariant.walk.slow))

pub loop-preserved : goal.loop-preserved
loop-preserved c = record {
  walk = walk-on c.args.at c.args.body.now c.args.count c.loop.counter c.loop.place c.loop.invariant.walk c.loop-test.true c.line_from-end.result.text c.line_from-end.result.feed (c.line_from-end.ensures.first c.args.at) c.line_from-end.ensures.within.1;
  few = c.in_ok-last.ensures.few c.loop.counter c.loop.invariant.few;
  joins = joins-next c.args.joining c.args.indent c.args.builder.now c.loop.builder c.push_line.new.builder c.args.at c.args.body.now c.args.count c.loop.last c.in_ok-last.last c.loop.counter c.loop.place (c.loop.place + (c.line_from-end.result.feed + 1)) c.line_from-end.result.text (c.loop.place + c.line_from-end.result.feed)
      c.min-skipped.result c.past-in-loop.result.now
      (left-next c.args.at c.args.body.now c.args.count c.loop.counter c.loop.place c.loop.invariant.walk c.loop-test.true c.line_from-end.result.text c.line_from-end.result.feed (c.line_from-end.ensures.first c.args.at))
      (rw (c.before-line.ensures, c.past.ensures) at c.min-skipped.ensures) (rw (c.before-line.ensures, c.past.ensures) at c.past-in-loop.ensures) c.in_ok-last.ensures.value c.loop.invariant.joins;
}

pub returns : goal.returns
returns c = joins-end c.args.joining c.args.indent c.args.builder.now c.loop.builder c.args.at c.args.body.now c.args.count c.loop.last c.loop.counter c.loop.place c.loop.invariant.joins c.loop-test.false
