use Rattle.std.proofs.Common.{◌≡◌, drop, not}
use Rattle.std.specs.List.{list_all}
use Rattle.lf_ast.specs.Arguments.{texts_of}
use Rattle.lf_ast.specs.Tree.{trees}
use Rattle.lf_semantics.specs.RowTable.{may_be_present}
use Rattle.lf_flow.proofs.joining.are_absent.Given as goal

abbrev pub invariant-loop-source : goal.invariant-loop-source
invariant-loop-source l =
    list_all (λ source. not (may_be_present l.universe l.row source)) (texts_of (trees (drop l.source-index l.sources)))
    ≡ list_all (λ source. not (may_be_present l.universe l.row source)) (texts_of (trees l.sources))
