-- Rules, what a step of a rule records, runs of rules in any order and any number of times, and worlds.
use Rattle.std.specs.Prelude.{◌≡◌, ◌≢◌, true, false, cond, List, [], ◌∷◌, ◌++◌, map}
use Rattle.std.specs.List.{AllByRecursion, Contains}
use Rattle.lf_ast.specs.Labels.{Labels}
use Rattle.lf_ast.specs.Rules.{RuleTree}
use Rattle.lf_ast.specs.declared.rule.RuleLabel.{RuleLabel}
use Rattle.lf_ast.specs.Selectors.{metric}
use Rattle.lf_semantics.specs.Evaluation.{Evaluates, Results}
use Rattle.lf_semantics.specs.Parts.{is_evaluated, type_by_form}
use Rattle.lf_semantics.specs.Texts.{HasTexts, value_of, with_label}

-- with the labels of a rule, of which an empty one removes the label
abbrev pub with_labels : List RuleLabel → Labels → Labels
with_labels [] s = s
with_labels (l ∷ ls) s = with_label l.key l.value (with_labels ls s)

-- a sample as a recording rule stores it: under the recorded name, with the rule's labels
abbrev pub stored : RuleTree → Labels → Labels
stored r s = with_labels r.labels (with_label metric r.name s)

-- no label of a rule is the metric name
abbrev pub SetsNoName : RuleTree → Type 0
SetsNoName r = AllByRecursion (λ l. l.key ≢ metric) r.labels

-- a rule that is a scalar or a vector may give what its expression may give, and any other gives nothing at all
abbrev pub RuleGives : List Labels → List Labels → RuleTree → Results
RuleGives S N r R = (is_evaluated (type_by_form r.expr) ≡ true) × Evaluates S N r.expr R

-- a step: a rule, and the set that its expression gives
pub record Step : Type 0 where
  pub rule : RuleTree
  pub gives : List Labels

-- what a step adds to the recorded samples; an alert stores nothing
abbrev pub added : Step → List Labels
added step = cond step.rule.alert [] (map (stored step.rule) step.gives)

-- over the scraped series S and the samples N recorded before, each step is one of the rules and gives a set that the rule may give
abbrev pub IsRunFrom : List RuleTree → List Labels → List Labels → List Step → Type 0
IsRunFrom rules S N [] = Unit {0}
IsRunFrom rules S N (step ∷ later) = Contains rules step.rule × RuleGives S N step.rule step.gives × IsRunFrom rules S (N ++ added step) later

-- the premise: each scraped series is a label set with a metric name that no rule records
abbrev pub AreScraped : List RuleTree → List Labels → Type 0
AreScraped rules S =
    (s : Labels) → Contains S s → HasTexts s × (value_of s metric ≢ []) × ((r : RuleTree) → Contains rules r → r.alert ≡ false → value_of s metric ≢ r.name)

-- a world of these rules: scraped series, and a run over them that begins with nothing recorded
pub record World (rules : List RuleTree) : Type 0 where
  pub series : List Labels
  pub steps : List Step
  pub scraped : AreScraped rules series
  pub run : IsRunFrom rules series [] steps

-- a sample of a rule: a member of what it gives in some step
abbrev pub IsSample : {rules : List RuleTree} → World rules → RuleTree → Labels → Type 0
IsSample world rule s = (step : Step) × Contains world.steps step × (step.rule ≡ rule) × Contains step.gives s
