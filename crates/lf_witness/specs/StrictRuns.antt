-- Steps and runs by the strict evaluation: what a rule stores, and the samples that are stored after some steps.
use Rattle.std.specs.Prelude.{◌≡◌, ◌⊎◌, ℕ, Bool, true, false, List, [], ◌∷◌, ◌++◌, map, Some, None, option_to_list, slice_get}
use Rattle.std.specs.List.{flat_map}
use Rattle.lf_ast.specs.Labels.{Labels}
use Rattle.lf_ast.specs.Rules.{RuleTree}
use Rattle.lf_ast.specs.Tree.{Tree}
use Rattle.lf_semantics.specs.Parts.{is_evaluated, type_by_form}
use Rattle.lf_semantics.specs.Worlds.{Step, added, stored}
use Rattle.lf_witness.specs.Ascending.{IsAscending}
use Rattle.lf_witness.specs.Strict.{AreSame, IsSet, From, IsNone, MadeApart, Outcomes, StrictlyEvaluates}

-- a rule that is a scalar or a vector gives what its expression gives, and any other is None
abbrev pub RuleStrictlyGives : List Labels → RuleTree → Outcomes
RuleStrictlyGives W r o =
    ((is_evaluated (type_by_form r.expr) ≡ false) × IsNone o)
    ⊎ ((is_evaluated (type_by_form r.expr) ≡ true) × StrictlyEvaluates W r.expr o)

-- into the sample that the rule stores
abbrev pub IsStored : RuleTree → Labels → Labels → Type 0
IsStored r s t = t ≡ stored r s

-- by whether the rule is an alert, which stores nothing: samples as they are stored, and None where two of them would be one
abbrev pub StoredOf : RuleTree → Bool → List Labels → Outcomes
StoredOf r true P = IsSet (λ R. R ≡ [])
StoredOf r false P = MadeApart (IsStored r) P

-- what a step of the rule adds to the samples W
abbrev pub StepAdds : List Labels → RuleTree → Outcomes
StepAdds W r = From (RuleStrictlyGives W r) (StoredOf r r.alert)

-- the samples that are stored after steps of these rules over the samples W; None where a step is
abbrev pub StrictlyStored : List Labels → List RuleTree → Outcomes
StrictlyStored W [] = IsSet (AreSame W)
StrictlyStored W (r ∷ later) = From (StepAdds W r) (λ A. StrictlyStored (W ++ A) later)

-- the rules with these numbers, in the order of the numbers
abbrev pub rules_at : List RuleTree → List ℕ → List RuleTree
rules_at rules numbers = flat_map (λ k. option_to_list (slice_get rules k)) numbers

-- runs as steps with what they give

-- the samples that are stored after these steps: W, and what each step adds
abbrev pub stored_after : List Labels → List Step → List Labels
stored_after W [] = W
stored_after W (step ∷ later) = stored_after (W ++ added step) later

-- each step gives what its rule gives over the samples stored before it
abbrev pub AreStrictSteps : List Labels → List Step → Type 0
AreStrictSteps W [] = Unit {0}
AreStrictSteps W (step ∷ later) = RuleStrictlyGives W step.rule (Some step.gives) × AreStrictSteps (W ++ added step) later

-- `IsStrictRun W rules V steps`: the steps are of these rules in their order, each gives what its rule gives, and V are the samples stored after them
abbrev pub IsStrictRun : List Labels → List RuleTree → List Labels → List Step → Type 0
IsStrictRun W rules V steps = (map (λ step. step.rule) steps ≡ rules) × AreStrictSteps W steps × AreSame (stored_after W steps) V

-- answers

-- a set as it is answered, in ascending order of its pairs
abbrev pub InOrder : Outcomes → Outcomes
InOrder outcomes None = outcomes None
InOrder outcomes (Some R) = outcomes (Some R) × IsAscending R

-- `IsStrictAnswer W e o`: over the stored samples W, the answer for the expression e is o
abbrev pub IsStrictAnswer : List Labels → Tree → Outcomes
IsStrictAnswer W e = InOrder (StrictlyEvaluates W e)

-- `IsRuleAnswer W r o`: over the stored samples W, the answer for the rule is o
abbrev pub IsRuleAnswer : List Labels → RuleTree → Outcomes
IsRuleAnswer W r = InOrder (RuleStrictlyGives W r)

-- `IsRunAnswer series rules o`: over the series, the samples that are stored after steps of these rules are o
abbrev pub IsRunAnswer : List Labels → List RuleTree → Outcomes
IsRunAnswer series rules = InOrder (StrictlyStored series rules)
