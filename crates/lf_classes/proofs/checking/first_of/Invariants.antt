use Rattle.std.proofs.Common.{◌≡◌, drop, fold}
use Rattle.lf_base.specs.Faults.{first}
use Rattle.lf_classes.proofs.checking.first_of.Given as goal

abbrev pub invariant-loop-found : goal.invariant-loop-found
invariant-loop-found l = fold first l.fault (drop l.found-index l.arguments) ≡ fold first l.fn.own l.arguments
