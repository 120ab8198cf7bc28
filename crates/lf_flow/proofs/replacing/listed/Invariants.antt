use Rattle.std.proofs.Common.{◌+◌, length, take}
use Rattle.std.specs.List.{list_any}
use Rattle.lf_semantics.specs.Listing.{named_at}
use Rattle.lf_flow.specs.views.ClassSets.{IsSet}
use Rattle.lf_flow.proofs.ListedSets.{is_class}
use Rattle.lf_flow.proofs.replacing.listed.Given as goal

abbrev pub invariant-loop-text : goal.invariant-loop-text
invariant-loop-text l = IsSet (length (named_at l.universe l.label) + 2) (λ class. list_any (is_class l.universe l.label class) (take l.text-index l.texts)) l.on.items
