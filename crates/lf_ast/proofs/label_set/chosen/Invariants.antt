use Rattle.std.proofs.Common.{◌≡◌, take}
use Rattle.std.specs.List.{filter}
use Rattle.lf_ast.proofs.label_set.chosen.Given as goal

abbrev pub invariant-loop-entry : goal.invariant-loop-entry
invariant-loop-entry g l = l.kept.items ≡ filter (λ entry. g.C.LabelChoice.chooses l.choice entry.0) (take l.entry-index l.entries)
