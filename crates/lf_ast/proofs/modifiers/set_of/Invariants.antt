use Rattle.std.proofs.Common.{◌≡◌, ℕ, List, take}
use Rattle.lf_base.specs.views.NameSets.{has}
use Rattle.lf_ast.specs.Types.{is_among}
use Rattle.lf_ast.proofs.modifiers.set_of.Given as goal

abbrev pub invariant-loop-name : goal.invariant-loop-name
invariant-loop-name l = (other : List ℕ) → has l.set other ≡ is_among (take l.name-index l.names) other
