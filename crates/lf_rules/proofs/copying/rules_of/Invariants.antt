use Rattle.std.proofs.Common.{◌≡◌, map, take}
use Rattle.lf_rules.specs.Sources.{source, source_in}
use Rattle.lf_rules.proofs.copying.rules_of.Given as goal

abbrev pub invariant-loop-rule : goal.invariant-loop-rule
invariant-loop-rule l = map source l.copies ≡ map source_in (take l.rule-index l.rules)
