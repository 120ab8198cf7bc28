-- What an expression strictly gives behind a run.
use Rattle.std.specs.Prelude.{◌≡◌, ◌⊎◌, List, Some, None}
use Rattle.lf_ast.specs.Labels.{Labels}
use Rattle.lf_ast.specs.Rules.{RuleTree}
use Rattle.lf_ast.specs.Tree.{Tree}
use Rattle.lf_witness.specs.Strict.{Outcomes}
use Rattle.lf_witness.specs.StrictRuns.{IsRunAnswer, IsStrictAnswer}

-- `IsAnswerAfter series rules e o`: over the samples that are stored after steps of these rules over the series, the answer for the expression e is o. It is None, too, where
-- a step is
abbrev pub IsAnswerAfter : List Labels → List RuleTree → Tree → Outcomes
IsAnswerAfter series rules e o =
    (IsRunAnswer series rules None × (o ≡ None))
    ⊎ ((stored : List Labels) × IsRunAnswer series rules (Some stored) × IsStrictAnswer stored e o)
