use Rattle.std.proofs.Common.{◌≡◌, ◌++◌, List, length, reverse}
use Rattle.std.specs.List.{AllZip}
use Rattle.lf_ast.specs.Labels.{Labels}
use Rattle.lf_strict.proofs.becoming.each_made.Given as goal

abbrev pub invariant-loop-sample : goal.invariant-loop-sample
invariant-loop-sample g l = (done : List Labels) × (l.initial.samples ≡ l.samples ++ done) × AllZip (g.B.Becoming.becomes l.how) done (reverse l.made.items)

abbrev pub decreases-loop-sample : goal.decreases-loop-sample
decreases-loop-sample g l = length l.samples
