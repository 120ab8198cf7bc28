use Rattle.std.proofs.Common.{sym, ◌∙◌}
use Rattle.lf_semantics.specs.ClassRows.{is_live}
use Rattle.lf_flow.proofs.Sides.{none_here, none_there}
use Rattle.lf_flow.proofs.matching.match_side.Goals as goal
use Rattle.lf_flow.proofs.matching.match_side.Goals.{then-is_empty, else-is_empty}

pub returns-then-is_empty-2 : goal.returns-then-is_empty-2
returns-then-is_empty-2 c =
    elim c.if-is_empty.branch [
      | then-is_empty w ↦ c.clear.ensures ∙ none_here c.args.universe.now c.args.row.now c.requires.row _ (is_live c.args.other.now) (sym c.is_empty.ensures.empty ∙ w.if-is_empty.true)
      | else-is_empty w ↦ c.clear.ensures ∙ none_there c.args.universe.now c.args.row.now c.requires.row c.args.other.now _ (sym w.is_empty-else-is_empty.ensures.empty ∙ sym w.value-is ∙ c.if-is_empty-2.true)
    ]
