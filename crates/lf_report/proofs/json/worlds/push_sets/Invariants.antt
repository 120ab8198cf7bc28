use Rattle.std.proofs.Common.{◌≡◌, ◌++◌, false, map, take}
use Rattle.lf_report.specs.Json.{set_data}
use Rattle.lf_report.specs.views.Pieces.{listed}
use Rattle.lf_report.proofs.json.worlds.push_sets.Given as goal

abbrev pub invariant-loop-k : goal.invariant-loop-k
invariant-loop-k l = l.text ≡ l.initial.text ++ listed false (map set_data (take l.k l.sets))
