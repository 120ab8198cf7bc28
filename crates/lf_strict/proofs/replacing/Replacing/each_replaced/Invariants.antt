use Rattle.std.proofs.Common.{◌≡◌, take}
use Rattle.std.specs.List.{AllZip}
use Rattle.lf_semantics.specs.Evaluation.{IsReplaced}
use Rattle.lf_strict.proofs.replacing.Replacing.each_replaced.Given as goal

abbrev pub invariant-loop-sample : goal.invariant-loop-sample
invariant-loop-sample l = AllZip (IsReplaced l.self) (take l.sample-index l.samples) l.made.items × (l.pattern ≡ l.fn.pattern)
