-- What a world gives that is built for an expression and a choice of a text for each label.
use Rattle.std.specs.Prelude.{◌≡◌, List, [], ◌∷◌, ℕ, Some, false, slice_get, true}
use Rattle.lf_ast.specs.Labels.{Labels}
use Rattle.lf_ast.specs.Rules.{RuleTree}
use Rattle.lf_ast.specs.Tree.{Tree}
use Rattle.lf_deps.specs.Reading.{Reads}
use Rattle.lf_witness.specs.StrictRuns.{IsRunAnswer, IsStrictAnswer, rules_at}
use Rattle.lf_trials.specs.Building.{Building, each_once}
use Rattle.lf_trials.specs.Reached.{is_marked}
use Rattle.lf_shown.specs.Agreement.{AgreeOn}

-- The steps evaluate strictly over the series, each taken once, and the answer for the expression is the one label set alone: over what is stored after the steps, and over all
-- samples that agree with it on the names that the expression reads.
abbrev pub GivesAlone : List RuleTree → Tree → Building → Labels → Type 0
GivesAlone rules e built one =
    (stored : List Labels) × IsRunAnswer (each_once built.series) (rules_at rules built.steps) (Some stored)
    × ((X : List Labels) → AgreeOn (Reads rules e) X stored → IsStrictAnswer X e (Some (one ∷ [])))

-- no marked rule records a name that the expression reads
abbrev pub ReadsUnmarked : List RuleTree → List ℕ → Tree → Type 0
ReadsUnmarked rules marked e = (k : ℕ) (r : RuleTree) → is_marked marked k ≡ true → slice_get rules k ≡ Some r → r.alert ≡ false → Reads rules e r.name → ⊥
