-- What is tried with rules, and what a search for a sample tells: how contracts see the code. It defines nothing.
use Rattle.std.specs.Prelude.{◌≡◌, ◌<◌, ◌&&◌, ℕ, Bool, true, false, List, Option, Some, None, length, slice_get}
use Rattle.std.specs.List.{Contains, find}
use Rattle.lf_ast.specs.Labels.{Bytes, Labels}
use Rattle.lf_ast.specs.Rules.{RuleTree}
use Rattle.lf_ast.specs.Tree.{Tree}
use Rattle.lf_ast.specs.declared.rule.Rule.{Rule}
use Rattle.lf_ast.specs.declared.verdict.World.{World}
use Rattle.lf_semantics.specs.ClassRows.{Sets}
use Rattle.lf_semantics.specs.Environments.{rule_row}
use Rattle.lf_semantics.specs.Listing.{Listing}
use Rattle.lf_semantics.specs.Parts.{is_evaluated, type_by_form}
use Rattle.lf_semantics.specs.RowTable.{Environment}
use Rattle.lf_semantics.specs.Texts.{value_of}
use Rattle.lf_trials.specs.Built.{IsBuilt}
use Rattle.lf_trials.specs.Candidates.{has_presence}
use Rattle.lf_trials.specs.Reached.{IsReach, Trial}
use Rattle.lf_trials.specs.Trials.{Shown, Shows}
use Rattle.lf_trials.specs.Verdicts.{leaves}
use Rattle.lf_witness.specs.StrictRuns.{IsRuleAnswer}
use Rattle.lf_candidates.specs.views.ClassTexts.{name_at}
use Rattle.lf_worlds.specs.declared.showing.Evaluated.{Evaluated}
use Rattle.lf_worlds.specs.views.Told.{shown_by}

-- what the trials of all rules share
pub record Tried : Type 0 where
  pub universe : Listing
  pub env : Environment
  pub rules : List Rule

-- the reach of the rule of a number
abbrev pub IsReachAt : List RuleTree → ℕ → List ℕ → Type 0
IsReachAt rules i reach = (r : RuleTree) → slice_get rules i ≡ Some r → IsReach rules r.expr reach

-- the row leaves both presences of the label
abbrev pub leaves_both : Listing → Sets → Bytes → Bool
leaves_both u row label = leaves u row label true && leaves u row label false

-- one of these, or none where there is none
abbrev pub ShownFor : (Shown → Type 0) → Option World → Type 0
ShownFor Is (Some world) = Is (shown_by world)
ShownFor Is None = (shown : Shown) → Is shown → ⊥

-- the rule of a number is a scalar or a vector
abbrev pub IsEvaluatedAt : List RuleTree → ℕ → Type 0
IsEvaluatedAt rules i = (r : RuleTree) → slice_get rules i ≡ Some r → is_evaluated (type_by_form r.expr) ≡ true

-- the first of some samples with the presence of a label
abbrev pub first_with : Bytes → Bool → List Labels → Option Labels
first_with label presence samples = find (λ s. has_presence presence (value_of s label)) samples

-- the first sample with the presence that the rule gives over stored samples
abbrev pub IsGiven : List Labels → RuleTree → Bytes → Bool → Option Labels → Type 0
IsGiven stored r label presence (Some s) = (samples : List Labels) × IsRuleAnswer stored r (Some samples) × (first_with label presence samples ≡ Some s)
IsGiven stored r label presence None = (samples : List Labels) → IsRuleAnswer stored r (Some samples) → first_with label presence samples ≡ None

module _ (rules : List RuleTree) (i : ℕ) (label : Bytes) (presence : Bool) (trial : Trial) where
  -- the trial shows a sample
  abbrev pub ShowsSample : Labels → Type 0
  ShowsSample s = Shows rules i label presence (record { trial = trial; sample = s })

  -- the sample that the trial shows
  abbrev pub IsSampleShown : Option Labels → Type 0
  IsSampleShown (Some s) = ShowsSample s
  IsSampleShown None = (s : Labels) → ShowsSample s → ⊥

  -- the trial with the sample that it shows
  abbrev pub IsWorldShown : Option World → Type 0
  IsWorldShown (Some world) = ((shown_by world).trial ≡ trial) × Shows rules i label presence (shown_by world)
  IsWorldShown None = (s : Labels) → ShowsSample s → ⊥

-- the same of a trial that there may be
abbrev pub IsWorldIfShown : List RuleTree → ℕ → Bytes → Bool → Option Trial → Option World → Type 0
IsWorldIfShown rules i label presence (Some trial) o = IsWorldShown rules i label presence trial o
IsWorldIfShown rules i label presence None o = o ≡ None

-- the steps of a trial that there may be are below a number
abbrev pub AreBelow : ℕ → Option Trial → Type 0
AreBelow n (Some trial) = (k : ℕ) → Contains trial.steps k → k < n
AreBelow n None = Unit {0}

-- a trial with a sample
abbrev pub world_with : Trial → Labels → World
world_with trial sample = record { series = trial.series; steps = trial.steps; sample = sample }

-- of these samples the trial shows the first with a presence of a label, and where there is none, it shows nothing
abbrev pub AreShown : List RuleTree → ℕ → Trial → List Labels → Type 0
AreShown rules i trial samples = (label : Bytes) (presence : Bool) → IsSampleShown rules i label presence trial (first_with label presence samples)

-- the trial shows nothing
abbrev pub ShowsNothing : List RuleTree → ℕ → Trial → Type 0
ShowsNothing rules i trial = (label : Bytes) (presence : Bool) → IsSampleShown rules i label presence trial None

-- the samples that the rule gives behind the steps of the trial, if it gives any
abbrev pub AreSamplesOf : List RuleTree → ℕ → Trial → Option (List Labels) → Type 0
AreSamplesOf rules i trial (Some samples) = AreShown rules i trial samples
AreSamplesOf rules i trial None = ShowsNothing rules i trial

-- the trial with these samples
abbrev pub IsEvaluatedTrial : List RuleTree → ℕ → Trial → Option Evaluated → Type 0
IsEvaluatedTrial rules i trial (Some e) = (e.trial ≡ trial) × AreShown rules i e.trial e.samples
IsEvaluatedTrial rules i trial None = ShowsNothing rules i trial

-- the same of a trial that there may be
abbrev pub IsEvaluatedIf : List RuleTree → ℕ → Option Trial → Option Evaluated → Type 0
IsEvaluatedIf rules i (Some trial) o = IsEvaluatedTrial rules i trial o
IsEvaluatedIf rules i None o = o ≡ None

-- whether the expression of the rule of a number holds a fork
abbrev pub IsForkedAt : List RuleTree → ℕ → (Tree → Bool) → Bool → Type 0
IsForkedAt rules i holds_fork forked = (r : RuleTree) → slice_get rules i ≡ Some r → forked ≡ holds_fork r.expr

module _ (u : Listing) (env : Environment) (rules : List RuleTree) (i : ℕ) where
  -- the row of the rule of a number
  abbrev pub IsRowAt : Sets → Type 0
  IsRowAt row = (r : RuleTree) → slice_get rules i ≡ Some r → row ≡ rule_row u env r

  -- the row leaves a presence of a label
  abbrev pub IsLeft : Bytes → Bool → Type 0
  IsLeft label presence = (r : RuleTree) → slice_get rules i ≡ Some r → leaves u (rule_row u env r) label presence ≡ true

  -- the built trial for the absence of a label, with the samples that the rule gives
  pub record IsAbsence (e : Evaluated) : Type 0 where
    pub label : ℕ
    pub inside : label < length u.named
    pub built : IsBuilt u env rules i (name_at u label) false e.trial
    pub shown : AreShown rules i e.trial e.samples
