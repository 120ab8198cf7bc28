-- A strict run that is not None is a run of the relational evaluation, and a rule that evaluates strictly behind it can be its last step.
use Rattle.std.proofs.Common.{◌≡◌, ◌⊎◌, inl, inr, Bool, true, false, List, [], ◌∷◌, ◌++◌, map, Some, cond, refl, sym, ap, ◌∙◌, subst}
use Rattle.std.proofs.lemmas.List.Elements.{Contains-append_left, Contains-append_right, Contains-append_cases}
use Rattle.std.specs.List.{Contains}
use Rattle.lf_laws.proofs.Members.{behind, here, in_map, map_member, only_one}
use Rattle.lf_ast.specs.Labels.{Labels}
use Rattle.lf_ast.specs.Rules.{RuleTree}
use Rattle.lf_semantics.specs.Worlds.{AreScraped, IsRunFrom, IsSample, Step, World, added, stored}
use Rattle.lf_witness.specs.Strict.{AreSame}
use Rattle.lf_witness.specs.StrictRuns.{AreStrictSteps, IsStrictRun, RuleStrictlyGives, StepAdds, StoredOf, StrictlyStored, stored_after}
use Rattle.lf_witness.proofs.SameSets.{chained, same_behind, same_front, same_itself, turned}
use Rattle.lf_witness.proofs.SameSamples.{rule_into}
use Rattle.lf_witness.proofs.StrictIsRelational.{given, rule_is_relational}

-- steps over the same samples

steps_into : (steps : List Step) (W V : List Labels) → AreSame W V → AreStrictSteps W steps → AreStrictSteps V steps
steps_into [] W V same is = is
steps_into (step ∷ later) W V same is = (
  rule_into W V same step.rule (Some step.gives) is.0,
  steps_into later (W ++ added step) (V ++ added step) (same_front W V (added step) same) is.1,
)

after_same : (steps : List Step) (W V : List Labels) → AreSame W V → AreSame (stored_after W steps) (stored_after V steps)
after_same [] W V same = same
after_same (step ∷ later) W V same = after_same later (W ++ added step) (V ++ added step) (same_front W V (added step) same)

-- the steps of a strict run

abbrev pub step_of : RuleTree → List Labels → Step
step_of r R = record { rule = r; gives = R }

-- what a step stores is what it adds
adds : (r : RuleTree) (alert : Bool) (P A : List Labels) → StoredOf r alert P (Some A) → AreSame A (cond alert [] (map (stored r) P))
adds r true P A is = subst (λ (l : List Labels). AreSame l []) (sym is) (same_itself [])
adds r false P A is = (
  λ s c. let from = is.0.1 s c in subst (Contains (map (stored r) P)) (sym from.2) (in_map (stored r) P from.0 from.1),
  λ s c. let from = map_member (stored r) P s c in let to = is.0.0 from.0 from.1 in subst (Contains A) (to.1 ∙ sym from.2) to.2,
)

-- a strict run that is not None has steps, one of each rule in their order, that give what the rules strictly give and store what it stores
pub steps_of : (rules : List RuleTree) (W V : List Labels) → StrictlyStored W rules (Some V) → (steps : List Step) × IsStrictRun W rules V steps
steps_of [] W V is = ([], (refl, tt, is))
steps_of (r ∷ later) W V is =
    let step = given (StepAdds W r) (λ A. StrictlyStored (W ++ A) later) V is in
    let gave = given (RuleStrictlyGives W r) (StoredOf r r.alert) step.0 step.1 in
    let this : Step = step_of r gave.0 in
    let same : AreSame (W ++ step.0) (W ++ added this) = same_behind W step.0 (added this) (adds r r.alert gave.0 step.0 gave.2) in
    let rest = steps_of later (W ++ step.0) V step.2 in
    let stores : AreSame (stored_after (W ++ added this) rest.0) V =
    chained (stored_after (W ++ added this) rest.0) (stored_after (W ++ step.0) rest.0) V (turned (stored_after (W ++ step.0) rest.0) (stored_after (W ++ added this) rest.0) (after_same rest.0 (W ++ step.0) (W ++ added this) same)) rest.1.2 in
    (this ∷ rest.0, (ap (λ l. r ∷ l) rest.1.0, (gave.1, steps_into rest.0 (W ++ step.0) (W ++ added this) same rest.1.1), stores))

-- a step of a rule that strictly gives its set behind the others
more_steps : (steps : List Step) (W : List Labels) (last : Step) → AreStrictSteps W steps → RuleStrictlyGives (stored_after W steps) last.rule (Some last.gives) → AreStrictSteps W (steps ++ last ∷ [])
more_steps [] W last is gives = (gives, tt)
more_steps (step ∷ later) W last is gives = (is.0, more_steps later (W ++ added step) last is.1 gives)

-- runs of the relational evaluation

-- the samples of W are scraped series or recorded samples
abbrev pub AreOf : List Labels → List Labels → List Labels → Type 0
AreOf W S N = (s : Labels) → Contains W s → Contains S s ⊎ Contains N s

more : (W S N A : List Labels) → AreOf W S N → AreOf (W ++ A) S (N ++ A)
more W S N A of_world s c = elim (Contains-append_cases W A s c) [
  | inl old ↦ elim (of_world s old) [
    | inl scraped ↦ inl scraped
    | inr recorded ↦ inr (Contains-append_left N A s recorded)
  ]
  | inr new ↦ inr (Contains-append_right N A s new)
]

module _ (rules : List RuleTree) where
  -- steps that give what their rules strictly give are a run
  pub strict_steps_run : (steps : List Step) (W S N : List Labels) → ((step : Step) → Contains steps step → Contains rules step.rule) → AreOf W S N → AreStrictSteps W steps → IsRunFrom rules S N steps
  strict_steps_run [] W S N among of_world is = tt
  strict_steps_run (step ∷ later) W S N among of_world is = (
    among step (here step later),
    rule_is_relational W S N of_world step.rule step.gives is.0,
    strict_steps_run later (W ++ added step) S (N ++ added step) (λ x c. among x (behind step later x c)) (more W S N (added step) of_world) is.1,
  )

  step_among : (steps : List Step) (ran : List RuleTree) → map (λ step. step.rule) steps ≡ ran → ((r : RuleTree) → Contains ran r → Contains rules r) → (step : Step) → Contains steps step → Contains rules step.rule
  step_among steps ran same among step c = among step.rule (subst (λ (l : List RuleTree). Contains l step.rule) same (in_map (λ step. step.rule) steps step c))

  -- a strict run over scraped and recorded samples that is not None has steps of its rules, with what each strictly gives, and they are a run
  pub run_of : (ran : List RuleTree) (W S N V : List Labels) → ((r : RuleTree) → Contains ran r → Contains rules r) → AreOf W S N → StrictlyStored W ran (Some V)
      → (steps : List Step) × IsStrictRun W ran V steps × IsRunFrom rules S N steps
  run_of ran W S N V among of_world is =
      let steps = steps_of ran W V is in
      (steps.0, steps.1, strict_steps_run steps.0 W S N (step_among steps.0 ran steps.1.0 among) of_world steps.1.1)

  module _ (series : List Labels) (scraped : AreScraped rules series) (ran : List RuleTree) (among : (r : RuleTree) → Contains ran r → Contains rules r) (V : List Labels) (is : StrictlyStored series ran (Some V)) where
    -- over scraped series the steps are those of a world
    pub world_of : (world : World rules) × (world.series ≡ series) × IsStrictRun series ran V world.steps
    world_of =
        let run = run_of ran series series [] V among (λ s c. inl c) is in
        let world : World rules = record { series = series; steps = run.0; scraped = scraped; run = run.2 } in
        (world, refl, run.1)

    -- what a rule strictly gives behind them is the last step of a world, behind these steps
    pub world_behind : (r : RuleTree) (R : List Labels) → Contains rules r → RuleStrictlyGives V r (Some R)
        → (world : World rules) × (steps : List Step) × (world.series ≡ series) × (world.steps ≡ steps ++ step_of r R ∷ []) × IsStrictRun series ran V steps
    world_behind r R known gives =
        let steps = steps_of ran series V is in
        let all = more_steps steps.0 series (step_of r R) steps.1.1 (rule_into V (stored_after series steps.0) (turned (stored_after series steps.0) V steps.1.2) r (Some R) gives) in
        let each : (step : Step) → Contains (steps.0 ++ step_of r R ∷ []) step → Contains rules step.rule = λ step c. elim (Contains-append_cases steps.0 (step_of r R ∷ []) step c) [
          | inl before ↦ step_among steps.0 ran steps.1.0 among step before
          | inr it ↦ subst (λ (z : Step). Contains rules z.rule) (only_one (step_of r R) step it) known
        ] in
        let run = strict_steps_run (steps.0 ++ step_of r R ∷ []) series series [] each (λ s c. inl c) all in
        let world : World rules = record { series = series; steps = steps.0 ++ step_of r R ∷ []; scraped = scraped; run = run } in
        (world, steps.0, refl, refl, steps.1)

    -- so the samples that it gives are samples of the rule in a world
    pub samples_behind : (r : RuleTree) (R : List Labels) → Contains rules r → RuleStrictlyGives V r (Some R) → (world : World rules) × (world.series ≡ series) × ((s : Labels) → Contains R s → IsSample world r s)
    samples_behind r R known gives =
        let made = world_behind r R known gives in
        let last : Contains made.0.steps (step_of r R) =
        subst (λ (l : List Step). Contains l (step_of r R)) (sym made.3) (Contains-append_right made.1 (step_of r R ∷ []) (step_of r R) (here (step_of r R) [])) in
        (made.0, made.2, λ s c. (step_of r R, last, refl, c))
