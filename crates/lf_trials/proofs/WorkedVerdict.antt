-- The verdicts on a worked rule, with the trials that show them: `job:foo:sum` is `sum by (job) (foo{env="p"})`.
use Rattle.std.proofs.Common.{◌≡◌, inl, inr, ℕ, true, false, List, [], ◌∷◌, Option, Some, None, codes, refl, sym, ap, ◌∙◌, subst, true≢false, slice_get, arith, cond}
use Rattle.std.specs.Fmt.{digits}
use Rattle.std.specs.List.{Contains}
use Rattle.std.proofs.lemmas.Option.{get_or_from_slice_get, slice_get_within}
use Rattle.lf_laws.proofs.Members.{none_in, only_one, same_true}
use Rattle.lf_ast.specs.Labels.{Bytes, Labels}
use Rattle.lf_ast.specs.Rules.{RuleTree}
use Rattle.lf_ast.specs.Selectors.{metric}
use Rattle.lf_ast.specs.declared.expr.Grouping.TheVariants.{By}
use Rattle.lf_deps.specs.Reading.{Reads, Reaches, SelectsBy}
use Rattle.lf_semantics.specs.Environments.{recorded_row}
use Rattle.lf_semantics.specs.Evaluation.{bare}
use Rattle.lf_semantics.specs.Grouped.{group_of, is_grouped_by}
use Rattle.lf_semantics.specs.RowTable.{Environment}
use Rattle.lf_semantics.specs.Texts.{value_of}
use Rattle.lf_semantics.proofs.LabelTexts.{value-bare, value-with_label}
use Rattle.lf_semantics.proofs.Restricted.{value-restricted}
use Rattle.lf_semantics.proofs.Written.{names}
use Rattle.lf_trials.specs.Built.{IsBuilt}
use Rattle.lf_trials.specs.Candidates.{has_presence}
use Rattle.lf_trials.specs.Forks.{HoldsFork, TellsForks, has_own_fork}
use Rattle.lf_trials.specs.Reached.{IsReach}
use Rattle.lf_trials.specs.Trials.{Shown, Shows}
use Rattle.lf_trials.specs.Verdicts.{Impossible, IsRuleVerdict, Possible}
use Rattle.lf_trials.specs.Verdicts as verdict
use Rattle.lf_trials.proofs.WorkedBuilt.{labelled, sum, sum_u}
use Rattle.lf_witness.specs.StrictRuns.{IsRuleAnswer, IsRunAnswer}
use Rattle.lf_witness.proofs.AscendingLists.{alone_ascends}
use Rattle.lf_witness.proofs.SameSets.{same_itself}
use Rattle.lf_witness.proofs.WorkedStrict.{made}

abbrev job : Bytes
job = codes "job"

abbrev env_label : Bytes
env_label = codes "env"

abbrev rules : List RuleTree
rules = sum ∷ []

-- of the name the empty text, the two names and any other
abbrev env : Environment
env = (codes "job:foo:sum", (false ∷ false ∷ true ∷ false ∷ []) ∷ (true ∷ true ∷ []) ∷ (true ∷ false ∷ false ∷ []) ∷ (true ∷ false ∷ []) ∷ []) ∷ []

records : recorded_row sum_u env sum ≡ (false ∷ false ∷ true ∷ false ∷ []) ∷ (true ∷ true ∷ []) ∷ (true ∷ false ∷ false ∷ []) ∷ (true ∷ false ∷ []) ∷ []
records = refl

-- what is read

reads_foo : (name : Bytes) → SelectsBy rules (Some (codes "foo") ∷ []) name → name ≡ codes "foo"
reads_foo name (inl said) = same_some (codes "foo") name (only_one (Some (codes "foo")) (Some name) said)
  where
    same_some : (x y : Bytes) → Some x ≡ Some y → y ≡ x
    same_some x y e = sym (ap (λ (o : Option Bytes). elim o [ None ↦ x | Some z ↦ z ]) e)
reads_foo name (inr unsaid) = absurd (true≢false (ap (λ (o : Option Bytes). elim o [ None ↦ false | Some z ↦ true ]) (only_one (Some (codes "foo")) None unsaid.0)))

is_the_rule : (r : RuleTree) → Contains rules r → r.name ≡ codes "job:foo:sum"
is_the_rule r c = sym (ap (λ (z : RuleTree). z.name) (only_one sum r c))

other_name : (name : Bytes) → name ≡ codes "foo" → name ≡ codes "job:foo:sum" → ⊥
other_name name one other = true≢false (sym (same_true (codes "foo") (codes "job:foo:sum") (sym one ∙ other)))

reads_only_foo : (name : Bytes) → Reads rules sum.expr name → name ≡ codes "foo"
reads_only_foo name (Reads.selected s) = reads_foo name s
reads_only_foo name (Reads.through r c recording s reads) = absurd (other_name r.name (reads_foo r.name s) (is_the_rule r c))

reaches_none : (r : RuleTree) → Contains rules r → Reaches rules sum.expr r → ⊥
reaches_none r c reaches = other_name r.name (reads_only_foo r.name reaches.1) (is_the_rule r c)

tells : TellsForks rules (has_own_fork rules)
tells e = (λ own. inl own, both)
  where
    both : HoldsFork rules e → has_own_fork rules e ≡ true
    both (inl own) = own
    both (inr (r, c, reaches, own)) = absurd (true≢false (sym (subst (λ (z : RuleTree). has_own_fork rules z.expr ≡ true) (sym (only_one sum r c)) own)))

reach : IsReach rules sum.expr []
reach = record {
  ascending = λ k l less within. absurd (omega (arith, within));
  members = λ k. (λ c. absurd (none_in k c), λ (r, at, reaches). absurd (reaches_none r (rule_at k r at) reaches));
}
  where
    rule_at : (k : ℕ) (r : RuleTree) → slice_get rules k ≡ Some r → Contains rules r
    rule_at k r at = (k, slice_get_within rules k r at, get_or_from_slice_get rules k r r at)

-- one series

abbrev pub sample_of : Labels → Labels
sample_of s = group_of (By (names 8 (job ∷ []))) s

-- the sample has the job alone, as the series has it
pub sample_is : (s : Labels) (name : Bytes) → value_of (sample_of s) name ≡ cond (is_grouped_by (By (names 8 (job ∷ []))) name) (value_of s name) []
sample_is s name = value-restricted (is_grouped_by (By (names 8 (job ∷ [])))) s name

runs : (s : Labels) → IsRunAnswer (s ∷ []) [] (Some (s ∷ []))
runs s = (same_itself (s ∷ []), alone_ascends s)

module _ (s : Labels) (named : value_of s metric ≡ codes "foo") (of_env : value_of s env_label ≡ codes "p") where
  gives : IsRuleAnswer (s ∷ []) sum (Some (sample_of s ∷ []))
  gives = (
    inr (
      refl,
      inr (
        s ∷ [],
        (λ t c _ _. c, λ t c. (c, subst (λ z. value_of z metric ≡ codes "foo") (only_one s t c) named, (subst (λ z. value_of z env_label ≡ codes "p") (only_one s t c) of_env, tt))),
        made (group_of (By (names 8 (job ∷ [])))) (s ∷ []),
      ),
    ),
    alone_ascends (sample_of s),
  )

abbrev with_job : Labels
with_job = labelled ((metric, codes "foo") ∷ (job, codes "v1") ∷ (env_label, codes "p") ∷ [])

abbrev without_job : Labels
without_job = labelled ((metric, codes "foo") ∷ (env_label, codes "p") ∷ [])

abbrev with_p : Labels
with_p = labelled ((env_label, codes "p") ∷ [])

abbrev with_job_p : Labels
with_job_p = labelled ((job, codes "v1") ∷ (env_label, codes "p") ∷ [])

name_with : value_of with_job metric ≡ codes "foo"
name_with = value-with_label metric (codes "foo") with_job_p metric

name_without : value_of without_job metric ≡ codes "foo"
name_without = value-with_label metric (codes "foo") with_p metric

env_with : value_of with_job env_label ≡ codes "p"
env_with = value-with_label metric (codes "foo") with_job_p env_label ∙ value-with_label job (codes "v1") with_p env_label ∙ value-with_label env_label (codes "p") bare env_label

env_without : value_of without_job env_label ≡ codes "p"
env_without = value-with_label metric (codes "foo") with_p env_label ∙ value-with_label env_label (codes "p") bare env_label

job_with : value_of with_job job ≡ codes "v1"
job_with = value-with_label metric (codes "foo") with_job_p job ∙ value-with_label job (codes "v1") with_p job

job_without : value_of without_job job ≡ []
job_without = value-with_label metric (codes "foo") with_p job ∙ value-with_label env_label (codes "p") bare job ∙ value-bare job

abbrev present : Shown
present = record { trial = record { series = with_job ∷ []; steps = [] }; sample = sample_of with_job }

abbrev absent : Shown
absent = record { trial = record { series = without_job ∷ []; steps = [] }; sample = sample_of without_job }

-- the samples are `{job="v1"}` and `{}`
pub job_of_present : value_of present.sample job ≡ codes "v1"
job_of_present = sample_is with_job job ∙ job_with

pub job_of_absent : value_of absent.sample job ≡ []
job_of_absent = sample_is without_job job ∙ job_without

built_present : IsBuilt sum_u env rules 0 job true present.trial
unfolding digits
built_present = record {
  holds_fork = has_own_fork rules;
  tells_forks = tells;
  rule = sum;
  is_rule = refl;
  reach = [];
  is_reach = reach;
  built = record { series = with_job ∷ []; steps = []; selectors = 1 };
  is_built = refl;
  bounded = omega arith;
  is_trial = refl;
}

built_absent : IsBuilt sum_u env rules 0 job false absent.trial
unfolding digits
built_absent = record {
  holds_fork = has_own_fork rules;
  tells_forks = tells;
  rule = sum;
  is_rule = refl;
  reach = [];
  is_reach = reach;
  built = record { series = without_job ∷ []; steps = []; selectors = 1 };
  is_built = refl;
  bounded = omega arith;
  is_trial = refl;
}

shows_present : Shows rules 0 job true present
shows_present = record {
  rule = sum;
  is_rule = refl;
  stored = with_job ∷ [];
  is_stored = runs with_job;
  samples = present.sample ∷ [];
  are_samples = gives with_job name_with env_with;
  is_sample = ap (λ text. cond (has_presence true text) (Some present.sample) None) job_of_present;
}

shows_absent : Shows rules 0 job false absent
shows_absent = record {
  rule = sum;
  is_rule = refl;
  stored = without_job ∷ [];
  is_stored = runs without_job;
  samples = absent.sample ∷ [];
  are_samples = gives without_job name_without env_without;
  is_sample = ap (λ text. cond (has_presence false text) (Some absent.sample) None) job_of_absent;
}

-- of `__name__`, `job`, `env` and `*`
pub verdicts_of_sum : IsRuleVerdict sum_u env rules 0 sum (verdict.Labels (Impossible ∷ Possible present absent ∷ Impossible ∷ Impossible ∷ []))
unfolding digits
verdicts_of_sum = (refl, ((refl, refl), (((refl, refl), inl (built_present, shows_present), inl (built_absent, shows_absent)), ((refl, refl), ((refl, refl), tt)))))
