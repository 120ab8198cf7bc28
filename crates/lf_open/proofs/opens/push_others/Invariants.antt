use Rattle.std.proofs.Common.{take}
use Rattle.lf_deps.specs.Ordering.{without}
use Rattle.lf_open.specs.views.Known.{rules_of}
use Rattle.lf_open.specs.views.Opens.{IsListOf}
use Rattle.lf_open.proofs.opens.push_others.Given as goal

abbrev pub invariant-loop-number : goal.invariant-loop-number
invariant-loop-number l = IsListOf (rules_of l.known) (without l.i (take l.number-index l.numbers)) l.fn.found l.found
