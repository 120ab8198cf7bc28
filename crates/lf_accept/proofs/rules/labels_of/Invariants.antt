use Rattle.std.proofs.Common.{◌≡◌, map, take}
use Rattle.lf_rules.specs.Sources.{setting_in}
use Rattle.lf_accept.specs.Accepted.{label_of}
use Rattle.lf_accept.proofs.rules.labels_of.Given as goal

abbrev pub invariant-loop-pair : goal.invariant-loop-pair
invariant-loop-pair l = l.labels ≡ map label_of (map setting_in (take l.pair-index l.pairs))
