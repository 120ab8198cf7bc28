use Rattle.std.proofs.Common.{◌+◌, ◌&&◌, eqb, length, not, take}
use Rattle.std.specs.List.{list_any}
use Rattle.lf_ast.specs.Labels.{Bytes}
use Rattle.lf_semantics.specs.Listing.{class_of, named_at}
use Rattle.lf_flow.specs.views.ClassSets.{IsSet}
use Rattle.lf_flow.proofs.scraped.unrecorded.Given as goal

abbrev pub invariant-loop-place : goal.invariant-loop-place
invariant-loop-place l =
    IsSet (length (named_at l.universe l.label) + 2) (λ class. not (eqb class 0) && not (list_any (λ (name : Bytes). eqb (class_of l.universe l.label name) class) (take l.place l.names))) l.on.items
