use Rattle.std.proofs.Common.{◌≡◌, take}
use Rattle.lf_open.specs.views.Told.{put_all}
use Rattle.lf_open.proofs.number_set.put_all.Given as goal

abbrev pub invariant-loop-number : goal.invariant-loop-number
invariant-loop-number l = l.many.keys ≡ put_all (take l.number-index l.few) l.fn.many.keys
