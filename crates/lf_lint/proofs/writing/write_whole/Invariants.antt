use Rattle.std.proofs.Common.{length, ◌-◌, ◌≡◌, take, ◌≤◌}
use Rattle.lf_lint.specs.Ends.{Wrote}
use Rattle.lf_lint.proofs.writing.write_whole.Given as goal

abbrev pub invariant-loop-written : goal.invariant-loop-written
invariant-loop-written g l = record {
  within : l.written ≤ length l.bytes;
  calm : g.O.Sink.faults l.out ≡ 0;
  wrote : Wrote (g.O.Sink.taken l.fn.out) (g.O.Sink.taken l.out) (take l.written l.bytes);
}

abbrev pub decreases-loop-written : goal.decreases-loop-written
decreases-loop-written g l = length l.bytes - l.written
