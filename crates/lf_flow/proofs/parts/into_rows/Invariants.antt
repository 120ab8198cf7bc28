use Rattle.std.proofs.Common.{◌≡◌, ◌++◌, length, map, reverse}
use Rattle.lf_flow.specs.declared.typed_row.TypedRow.{TypedRow}
use Rattle.lf_flow.specs.views.Kept.{made_row}
use Rattle.lf_flow.proofs.parts.into_rows.Given as goal

abbrev pub invariant-loop-part : goal.invariant-loop-part
invariant-loop-part l = map (λ (typed : TypedRow). made_row l.universe typed.row) l.initial.parts.items ≡ map (λ (typed : TypedRow). made_row l.universe typed.row) l.parts.items ++ reverse l.rows.items

abbrev pub decreases-loop-part : goal.decreases-loop-part
decreases-loop-part l = length l.parts.items
