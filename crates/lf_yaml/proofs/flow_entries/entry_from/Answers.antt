use Rattle.std.proofs.Common.{arith}
use Rattle.std.proofs.lemmas.Str.{IsCharBoundary-after_ascii}
use Rattle.lf_yaml.proofs.flow_entries.entry_from.Goals as goal

pub flow_value-requires-clause-place : goal.flow_value-requires-clause-place
flow_value-requires-clause-place c =
    c.behind.ensures.place c.args.source.bytes.now c.requires.part (IsCharBoundary-after_ascii c.args.part.text.now c.in-Ok.colon c.requires.part.utf8 c.in-Ok.ensures.within (omega (arith, c.in-Ok.ensures.sign)))
