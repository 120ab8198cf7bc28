use Rattle.std.proofs.Common.{◌≡◌, false}
use Rattle.lf_base.specs.reading.Closing.{closing}
use Rattle.lf_base.proofs.Quotes.{passed}
use Rattle.lf_base.proofs.strings.closing.Given as goal

abbrev pub invariant-loop-i : goal.invariant-loop-i
invariant-loop-i l = passed l.stop l.quote l.rest l.i l.skip ≡ closing l.stop l.quote false l.rest
