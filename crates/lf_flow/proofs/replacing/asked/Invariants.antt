use Rattle.std.proofs.Common.{◌≡◌}
use Rattle.lf_semantics.specs.RowTable.{may_match}
use Rattle.lf_flow.specs.views.ClassSets.{IsSet}
use Rattle.lf_flow.proofs.replacing.asked.Given as goal

abbrev pub invariant-loop-class : goal.invariant-loop-class
invariant-loop-class l = record {
  same : l.probe ≡ l.pattern;
  set : IsSet l.class (may_match l.universe l.pattern l.label) l.on.items;
}
