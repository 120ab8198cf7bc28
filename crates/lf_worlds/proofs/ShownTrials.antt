-- What trials show, step by step.
use Rattle.std.proofs.Common.{◌≡◌, inl, inr, ℕ, Bool, true, List, length, Option, Some, None, is_some, refl, sym, ap, ◌∙◌, subst, true≢false, slice_get}
use Rattle.std.proofs.lemmas.Option.{same_Some}
use Rattle.lf_laws.proofs.Options.{same_option}
use Rattle.lf_ast.specs.Labels.{Bytes, Labels}
use Rattle.lf_ast.specs.Rules.{RuleTree}
use Rattle.lf_ast.specs.declared.verdict.World.{World}
use Rattle.lf_semantics.specs.Listing.{Listing}
use Rattle.lf_semantics.specs.RowTable.{Environment}
use Rattle.lf_semantics.specs.Parts.{is_evaluated, type_by_form}
use Rattle.lf_witness.specs.StrictRuns.{IsRuleAnswer, IsRunAnswer, IsStrictAnswer, rules_at}
use Rattle.lf_witness.proofs.Answers.{one_rule_answer, one_run_answer}
use Rattle.lf_strict.specs.Steps.{IsAnswerAfter}
use Rattle.lf_trials.specs.Built.{IsBuilt}
use Rattle.lf_trials.specs.Reached.{Trial}
use Rattle.lf_trials.specs.Trials.{IsFirstShown, Shows, ShowsBuilt, ShowsUniform}
use Rattle.lf_trials.specs.Uniform.{IsUniform}
use Rattle.lf_trials.proofs.OneVerdict.{one_built, one_uniform}
use Rattle.lf_candidates.specs.views.Told.{AnswersFor}
use Rattle.lf_worlds.specs.views.Tried.{AreBelow, AreSamplesOf, IsGiven, IsSampleShown, IsWorldIfShown, IsWorldShown, ShownFor, first_with}
use Rattle.lf_worlds.proofs.Steps.{built_steps, uniform_steps}

module _ (rules : List RuleTree) (i : ℕ) (r : RuleTree) (at : slice_get rules i ≡ Some r) (label : Bytes) (presence : Bool) (trial : Trial) where
  -- the run of the trial has stored these samples, and this is what the rule gives over them
  pub given_is_shown : (stored : List Labels) → IsRunAnswer trial.series (rules_at rules trial.steps) (Some stored) → (o : Option Labels) → IsGiven stored r label presence o → IsSampleShown rules i label presence trial o
  given_is_shown stored is (Some s) given = record { rule = r; is_rule = at; stored = stored; is_stored = is; samples = given.0; are_samples = given.1; is_sample = given.2 }
  given_is_shown stored is None none = λ s shows.
      let same : shows.rule ≡ r = same_option (slice_get rules i) shows.rule r shows.is_rule at in
      let run : shows.stored ≡ stored = same_Some shows.stored stored (one_run_answer trial.series (rules_at rules trial.steps) (Some shows.stored) (Some stored) shows.is_stored is) in
      let over : IsRuleAnswer stored r (Some shows.samples) =
      subst (λ (W : List Labels). IsRuleAnswer W r (Some shows.samples)) run (subst (λ (q : RuleTree). IsRuleAnswer shows.stored q (Some shows.samples)) same shows.are_samples) in
      true≢false (sym (ap is_some (sym (none shows.samples over) ∙ shows.is_sample)))

module _ (rules : List RuleTree) (i : ℕ) (label : Bytes) (presence : Bool) (trial : Trial) where
  pub no_run_shows : IsRunAnswer trial.series (rules_at rules trial.steps) None → IsSampleShown rules i label presence trial None
  no_run_shows is = λ s shows. true≢false (sym (ap is_some (one_run_answer trial.series (rules_at rules trial.steps) None (Some shows.stored) is shows.is_stored)))

-- what a rule gives, by what its expression gives
module _ (stored : List Labels) (r : RuleTree) (evaluated : is_evaluated (type_by_form r.expr) ≡ true) where
  rule_answer : (o : Option (List Labels)) → IsStrictAnswer stored r.expr o → IsRuleAnswer stored r o
  rule_answer None is = inr (evaluated, is)
  rule_answer (Some samples) is = (inr (evaluated, is.0), is.1)

  module _ (label : Bytes) (presence : Bool) where
    pub first_is_given : (samples : List Labels) → IsStrictAnswer stored r.expr (Some samples) → IsGiven stored r label presence (first_with label presence samples)
    first_is_given samples is = by (first_with label presence samples) refl
      where
        by : (o : Option Labels) → first_with label presence samples ≡ o → IsGiven stored r label presence o
        by (Some s) there = (samples, rule_answer (Some samples) is, there)
        by None there = λ other gives. ap (first_with label presence) (same_Some other samples (one_rule_answer stored r (Some other) (Some samples) gives (rule_answer (Some samples) is))) ∙ there

    pub none_is_given : IsStrictAnswer stored r.expr None → IsGiven stored r label presence None
    none_is_given is = λ other gives. absurd (true≢false (sym (ap is_some (one_rule_answer stored r None (Some other) (rule_answer None is) gives))))

-- what a rule gives behind the steps of a trial
module _ (rules : List RuleTree) (i : ℕ) (r : RuleTree) (at : slice_get rules i ≡ Some r) (evaluated : is_evaluated (type_by_form r.expr) ≡ true) (label : Bytes) (presence : Bool) (trial : Trial) where
  pub some_after : (samples : List Labels) → IsAnswerAfter trial.series (rules_at rules trial.steps) r.expr (Some samples) → IsSampleShown rules i label presence trial (first_with label presence samples)
  some_after samples (inl (run, none)) = absurd (true≢false (ap is_some none))
  some_after samples (inr (stored, run, is)) =
      given_is_shown rules i r at label presence trial stored run (first_with label presence samples) (first_is_given stored r evaluated label presence samples is)

  pub none_after : IsAnswerAfter trial.series (rules_at rules trial.steps) r.expr None → IsSampleShown rules i label presence trial None
  none_after (inl (run, none)) = no_run_shows rules i label presence trial run
  none_after (inr (stored, run, is)) = given_is_shown rules i r at label presence trial stored run None (none_is_given stored r evaluated label presence is)

pub samples_after : (rules : List RuleTree) (i : ℕ) (r : RuleTree) → slice_get rules i ≡ Some r → is_evaluated (type_by_form r.expr) ≡ true → (trial : Trial) (o : Option (List Labels))
    → IsAnswerAfter trial.series (rules_at rules trial.steps) r.expr o → AreSamplesOf rules i trial o
samples_after rules i r at evaluated trial (Some samples) is = λ label presence. some_after rules i r at evaluated label presence trial samples is
samples_after rules i r at evaluated trial None is = λ label presence. none_after rules i r at evaluated label presence trial is

module _ (u : Listing) (env : Environment) (rules : List RuleTree) (i : ℕ) (label : Bytes) (presence : Bool) where
  -- the built world shows what its trial shows

  built_shows : (trial : Trial) → IsBuilt u env rules i label presence trial → (o : Option World) → IsWorldShown rules i label presence trial o → ShownFor (ShowsBuilt u env rules i label presence) o
  built_shows trial made (Some world) is = (subst (IsBuilt u env rules i label presence) (sym is.0) made, is.1)
  built_shows trial made None none = λ other shows.
      none other.sample (subst (λ (v : Trial). Shows rules i label presence (record { trial = v; sample = other.sample })) (one_built u env rules i label presence other.trial trial shows.0 made) shows.1)

  none_built : ((trial : Trial) → IsBuilt u env rules i label presence trial → ⊥) → ShownFor (ShowsBuilt u env rules i label presence) None
  none_built none = λ other shows. none other.trial shows.0

  pub built_if_shown : (made : Option Trial) → AnswersFor (IsBuilt u env rules i label presence) made → (o : Option World) → IsWorldIfShown rules i label presence made o → ShownFor (ShowsBuilt u env rules i label presence) o
  built_if_shown (Some trial) made o is = built_shows trial made o is
  built_if_shown None none o is = subst (ShownFor (ShowsBuilt u env rules i label presence)) (sym is) (none_built none)

  pub built_below : (made : Option Trial) → AnswersFor (IsBuilt u env rules i label presence) made → AreBelow (length rules) made
  built_below (Some trial) made = built_steps u env rules i label presence trial made
  built_below None none = tt

  -- and so does the uniform one

  uniform_shows : (trial : Trial) → IsUniform u rules i label presence trial → (o : Option World) → IsWorldShown rules i label presence trial o → ShownFor (ShowsUniform u env rules i label presence) o
  uniform_shows trial made (Some world) is = (subst (IsUniform u rules i label presence) (sym is.0) made, is.1)
  uniform_shows trial made None none = λ other shows.
      none other.sample (subst (λ (v : Trial). Shows rules i label presence (record { trial = v; sample = other.sample })) (one_uniform u env rules i label presence other.trial trial shows.0 made) shows.1)

  none_uniform : ((trial : Trial) → IsUniform u rules i label presence trial → ⊥) → ShownFor (ShowsUniform u env rules i label presence) None
  none_uniform none = λ other shows. none other.trial shows.0

  pub uniform_if_shown : (made : Option Trial) → AnswersFor (IsUniform u rules i label presence) made → (o : Option World) → IsWorldIfShown rules i label presence made o → ShownFor (ShowsUniform u env rules i label presence) o
  uniform_if_shown (Some trial) made o is = uniform_shows trial made o is
  uniform_if_shown None none o is = subst (ShownFor (ShowsUniform u env rules i label presence)) (sym is) (none_uniform none)

  pub uniform_below : (made : Option Trial) → AnswersFor (IsUniform u rules i label presence) made → AreBelow (length rules) made
  uniform_below (Some trial) made = uniform_steps u rules i label presence trial made
  uniform_below None none = tt

  -- the first of them

  pub first_shows : ShownFor (ShowsBuilt u env rules i label presence) None → (o : Option World) → ShownFor (ShowsUniform u env rules i label presence) o → ShownFor (IsFirstShown u env rules i label presence) o
  first_shows none (Some world) shows = inr (none, shows)
  first_shows none None nor = λ s first. elim first [ inl shows ↦ none s shows | inr shows ↦ nor s shows.1 ]
