use Rattle.std.proofs.Common.{◌≡◌, map, take}
use Rattle.lf_report.specs.views.Heads.{label_head}
use Rattle.lf_report.proofs.text.labels.label_heads.Given as goal

abbrev pub invariant-loop-name : goal.invariant-loop-name
invariant-loop-name l = l.heads ≡ map label_head (take l.name-index l.names)
