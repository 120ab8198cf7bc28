use Rattle.std.proofs.Common.{◌∙◌, arith}
use Rattle.lf_scalar.proofs.Ascents.{offsets-more}
use Rattle.lf_scalar.proofs.builder.push_offsets.Goals as goal

pub loop-i-preserved : goal.loop-i-preserved
loop-i-preserved c = record {
  items = c.push_reserved.ensures.items ∙ offsets-more c.args.from.now.items c.loop-i.from.items c.args.at c.loop-i.i c.loop-i.invariant.items;
  room = omega (arith, c.push_reserved.ensures.len, c.push_reserved.ensures.capacity, c.loop-i.invariant.room);
}
