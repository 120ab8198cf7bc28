use Rattle.std.proofs.Common.{◌≡◌, drop}
use Rattle.lf_pattern.specs.reading.Plainness.{passes}
use Rattle.lf_pattern.specs.declared.plainness.Check.TheVariants.{Text}
use Rattle.lf_pattern.proofs.plainness.scan.Given as goal

abbrev pub invariant-loop-c : goal.invariant-loop-c
invariant-loop-c l = passes l.check (drop l.c-index l.characters) ≡ passes Text l.characters
