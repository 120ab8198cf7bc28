use Rattle.std.proofs.Common.{take}
use Rattle.lf_deps.specs.Ordering.{without}
use Rattle.lf_open.specs.views.Firsts.{AreKept, IsFirstOfEach}
use Rattle.lf_open.specs.views.Known.{rules_of}
use Rattle.lf_open.proofs.firsts.first_of_others.Given as goal

abbrev pub invariant-loop-number : goal.invariant-loop-number
invariant-loop-number l = record { first : IsFirstOfEach (rules_of l.known) (without l.i (take l.number-index l.numbers)) l.first; kept : AreKept (rules_of l.known) l.kept.items }
