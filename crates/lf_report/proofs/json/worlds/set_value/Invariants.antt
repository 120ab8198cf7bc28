use Rattle.std.proofs.Common.{◌≡◌, take}
use Rattle.std.specs.FinMap as map_of
use Rattle.serde_json.specs.View.{members_view}
use Rattle.lf_report.specs.Json.{set_members}
use Rattle.lf_report.proofs.json.worlds.set_value.Given as goal

abbrev pub invariant-loop-k : goal.invariant-loop-k
invariant-loop-k l = members_view l.members.entries ≡ set_members (take l.k (map_of.entries l.set))
