use Rattle.std.proofs.Common.{◌≡◌, Bool, List, length}
use Rattle.lf_ast.specs.Rules.{RuleTree}
use Rattle.lf_deps.specs.views.Sources.{IsSourcesOf}
use Rattle.lf_open.specs.views.Choosing.{ArePassing}
use Rattle.lf_open.proofs.Chosen.{ChosenUpTo}
use Rattle.lf_open.proofs.choosing.chosen.Given as goal

abbrev pub invariant-loop-k : goal.invariant-loop-k
invariant-loop-k l =
    (length l.found.items ≡ l.k)
    × ((rules : List RuleTree) (of_rule : RuleTree → Bool) → IsSourcesOf rules l.sources → ArePassing rules of_rule l.passing → ChosenUpTo rules of_rule l.k l.found.items)
