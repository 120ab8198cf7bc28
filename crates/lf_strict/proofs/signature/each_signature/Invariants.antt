use Rattle.std.proofs.Common.{take}
use Rattle.std.specs.List.{AllZip}
use Rattle.lf_strict.specs.views.Signed.{IsSignature}
use Rattle.lf_strict.proofs.signature.each_signature.Given as goal

abbrev pub invariant-loop-sample : goal.invariant-loop-sample
invariant-loop-sample l = AllZip (IsSignature l.matching) (take l.sample-index l.samples) l.made.items
