use Rattle.std.proofs.Common.{◌≡◌, ◌++◌, drop}
use Rattle.lf_pattern.specs.declared.replacement.ReplacementMode.TheVariants.{Text}
use Rattle.lf_pattern.specs.reading.Replacement.{pieces_of}
use Rattle.lf_pattern.proofs.replacement.scan.Given as goal

abbrev pub invariant-loop-c : goal.invariant-loop-c
invariant-loop-c l = l.pieces ++ pieces_of l.mode (drop l.c-index l.characters) ≡ pieces_of Text l.characters
