use Rattle.std.proofs.Common.{◌&&◌, ◌||◌}
use Rattle.lf_semantics.specs.ClassRows.{holds}
use Rattle.lf_semantics.specs.RowTable.{is_expansion}
use Rattle.lf_flow.specs.views.ClassSets.{IsSet}
use Rattle.lf_flow.proofs.replacing.replaced.Given as goal

abbrev pub invariant-loop-class : goal.invariant-loop-class
invariant-loop-class l =
    IsSet l.class (λ class. (l.outcomes.may_match && is_expansion l.universe l.replacement l.label class) || (l.outcomes.may_fail && holds l.row l.label class)) l.on.items
