use Rattle.std.proofs.Common.{◌≡◌, ◌<◌, ◌&&◌, ℕ, List, false}
use Rattle.lf_ast.specs.Rules.{RuleTree}
use Rattle.lf_semantics.specs.Environments.{recorded_names}
use Rattle.lf_trials.specs.Names.{is_scraped_name, passes_as_name}
use Rattle.lf_candidates.specs.views.ClassTexts.{text_at}
use Rattle.lf_candidates.proofs.names.name_for.Given as goal

abbrev pub invariant-loop-class : goal.invariant-loop-class
invariant-loop-class l =
    (rules : List RuleTree) → l.recorded ≡ recorded_names rules → (j : ℕ) → j < l.class → (is_scraped_name rules (text_at l.universe 0 j) && passes_as_name l.matchers (text_at l.universe 0 j)) ≡ false
