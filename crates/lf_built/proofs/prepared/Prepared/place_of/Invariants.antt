use Rattle.std.proofs.Common.{◌≡◌, ◌+◌, take}
use Rattle.std.specs.List.{sum_by}
use Rattle.lf_ast.specs.Tree.{parts_of}
use Rattle.lf_built.specs.views.Places.{size}
use Rattle.lf_built.specs.views.Spots.{tree_at}
use Rattle.lf_built.proofs.prepared.Prepared.place_of.Given as goal

abbrev pub invariant-loop-before : goal.invariant-loop-before
invariant-loop-before l = l.place ≡ (l.spot.place + 1) + sum_by size (take l.before (parts_of (tree_at l.spot)))
