use Rattle.std.proofs.Common.{◌-◌, ◌^◌, []}
use Rattle.lf_yaml.specs.reading.Trees.{FlowTree}
use Rattle.lf_yaml.specs.views.Places.{IsPlaceIn}
use Rattle.lf_yaml.proofs.flow_parts.flow_parts.Given as goal

abbrev pub invariant-parts : goal.invariant-parts
invariant-parts g l =
    let behind = g.P.FlowParts.behind in
    ((read : FlowTree) → behind l.fn.reader l.source.bytes.now [] l.fn.place.at read → behind l.reader l.source.bytes.now l.parts l.at.at read) × IsPlaceIn l.source.bytes.now l.at

abbrev pub decreases-parts : goal.decreases-parts
decreases-parts g l = 2 ^ 31 - l.at.at
