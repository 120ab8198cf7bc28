use Rattle.std.proofs.Common.{◌≡◌, ◌-◌, ◌^◌, min, take}
use Rattle.std.specs.List.{sum_by}
use Rattle.lf_worlds.specs.views.AtMost.{most_at}
use Rattle.lf_worlds.proofs.at_most.most_at_all.Given as goal

abbrev pub invariant-loop-number : goal.invariant-loop-number
invariant-loop-number l = l.all ≡ min (sum_by (most_at l.each) (take l.number-index l.numbers)) (2 ^ 64 - 1)
