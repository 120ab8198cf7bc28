use Rattle.std.proofs.Common.{◌≡◌, map, take}
use Rattle.lf_rules.specs.Sources.{setting, setting_in}
use Rattle.lf_rules.proofs.copying.pairs_of.Given as goal

abbrev pub invariant-loop-pair : goal.invariant-loop-pair
invariant-loop-pair l = map setting l.copies ≡ map setting_in (take l.pair-index l.pairs)
