use Rattle.std.proofs.Common.{◌≡◌, ◌+◌, ◌-◌, arith, subst}
use Rattle.std.specs.Str.{IsCharBoundary}
use Rattle.std.proofs.lemmas.Str.{IsUtf8-had}
use Rattle.lf_yaml.proofs.parts.place_from.Goals as goal

pub returns-then-len-part-clause-place : goal.returns-then-len-part-clause-place
returns-then-len-part-clause-place c =
    let z : c.args.at ≡ c.args.part.at + (c.args.at - c.args.part.at) = omega (arith, c.requires.order) in
    c.behind.ensures.from c.args.source.bytes.now (IsUtf8-had c.args.source.bytes.now c.args.source.utf8) c.requires.part (subst (IsCharBoundary c.args.source.bytes.now) z c.requires.start)
