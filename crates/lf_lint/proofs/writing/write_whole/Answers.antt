use Rattle.std.proofs.Common.{arith}
use Rattle.lf_lint.proofs.Streams.{wrote_more}
use Rattle.lf_lint.proofs.writing.write_whole.Goals as goal

pub loop-written-preserved : goal.loop-written-preserved
loop-written-preserved g c = record {
  within = omega (arith, c.in_ok-count.ensures.within);
  calm = cc (c.in_ok-count.ensures.cause.kept);
  wrote = wrote_more _ _ _ _ _ _ c.loop-written.invariant.wrote c.in_ok-count.ensures.takes;
}
