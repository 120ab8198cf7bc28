-- What is stored while rules run.
use Rattle.std.specs.Prelude.{Bool, true, false, List, ◌++◌, Option, Some, None}
use Rattle.lf_ast.specs.Labels.{Labels}
use Rattle.lf_ast.specs.Rules.{RuleTree}
use Rattle.lf_witness.specs.Strict.{AreSame}
use Rattle.lf_witness.specs.StrictRuns.{StepAdds, StrictlyStored}

-- whether a step of the rule isn't None, over the samples W; then V are these with what it adds
abbrev pub IsStep : List Labels → RuleTree → List Labels → Bool → Type 0
IsStep W r V true = (A : List Labels) × StepAdds W r (Some A) × AreSame (W ++ A) V
IsStep W r V false = StepAdds W r None

-- whether steps of these rules aren't None, over the samples W; then later steps over V are later steps of the same run
abbrev pub IsStretch : List Labels → List RuleTree → List Labels → Bool → Type 0
IsStretch W rules V true = (later : List RuleTree) (o : Option (List Labels)) → StrictlyStored V later o → StrictlyStored W (rules ++ later) o
IsStretch W rules V false = StrictlyStored W rules None
