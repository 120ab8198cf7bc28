use Rattle.std.proofs.Common.{arith, length-take}
use Rattle.lf_lint.proofs.Streams.{read_more, read_past}
use Rattle.lf_lint.proofs.reading.read_whole.Goals as goal

pub loop-filled-preserved : goal.loop-filled-preserved
loop-filled-preserved g c = record {
  within = c.in_ok-count.ensures.within;
  room = omega (arith, c.in_ok-make_room.ensures.within, c.in_ok-count.ensures.len);
  ready = c.in_ok-count.ensures.ready;
  calm = cc (c.in_ok-count.ensures.cause.kept);
  opened = cc (c.in_ok-count.ensures.counted);
  so_far = read_more _ _ _ _ _ _ _ c.loop-filled.invariant.so_far (cc (c.in_ok-make_room.ensures.front, c.in_ok-count.ensures.front)) c.in_ok-count.ensures.next;
  kept = λ other. cc (c.in_ok-count.ensures.kept other, c.loop-filled.invariant.kept other);
}

pub returns-clause-too_long : goal.returns-clause-too_long
returns-clause-too_long g c = λ e. read_past _ _ _ _ c.loop-filled.invariant.so_far (omega (arith, length-take c.loop-filled.filled c.loop-filled.bytes.items, c.loop-filled.bytes.ok.0))
