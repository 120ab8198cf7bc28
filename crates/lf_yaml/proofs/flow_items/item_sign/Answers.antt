use Rattle.std.proofs.Common.{arith}
use Rattle.std.proofs.lemmas.Str.{IsCharBoundary-after_ascii}
use Rattle.lf_yaml.proofs.flow_items.item_sign.Goals as goal

pub returns-in-44-clause-turn : goal.returns-in-44-clause-turn
returns-in-44-clause-turn c = (
  c.behind.ensures.place c.args.source.bytes.now c.in-Ok.ensures.part (IsCharBoundary-after_ascii c.in-Ok.part.text.now 0 c.in-Ok.ensures.part.utf8 c.in-Ok.part.full (omega (arith, c.in-44.is))),
  omega (arith, c.in-Ok.ensures.further, c.behind.ensures.at),
)
