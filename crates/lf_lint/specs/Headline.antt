-- That what a report says of the rules of files is true: of every run of the rules, in any order and over any scraped series; and that where it calls a label possible there are
-- two worlds that show it.
use Rattle.std.specs.Prelude.{◌≡◌, ◌↔◌, ◌⊎◌, ℕ, Bool, true, false, cond, List, [], ◌∷◌, ◌++◌, length, codes, Option, Some, None, slice_get}
use Rattle.std.specs.List.{Contains}
use Rattle.lf_ast.specs.Labels.{Bytes, Labels}
use Rattle.lf_ast.specs.Rules.{RuleTree}
use Rattle.lf_ast.specs.declared.verdict.RuleVerdicts.{RuleVerdicts}
use Rattle.lf_ast.specs.declared.verdict.RuleVerdicts.TheVariants.{Empty, Labels as OnLabels}
use Rattle.lf_ast.specs.declared.verdict.Verdict.{Verdict}
use Rattle.lf_ast.specs.declared.verdict.Verdict.TheVariants.{Guaranteed, Impossible, Possible, Unresolved}
use Rattle.lf_ast.specs.declared.verdict.World.{World as ShownWorld}
use Rattle.lf_checks.specs.Files.{File}
use Rattle.lf_checks.specs.Finding.{Finding}
use Rattle.lf_checks.specs.Truths.{IsTrueFinding}
use Rattle.lf_judge.specs.Founds.{AreContents, Content, accepted}
use Rattle.lf_judge.specs.Judged.{files_told, finding_in, finding_told, labels_of}
use Rattle.lf_open.specs.Constructs.{number_of}
use Rattle.lf_open.specs.OpenList.{AreOpen}
use Rattle.lf_open.specs.declared.open_at.OpenAt.{OpenAt}
use Rattle.lf_report.specs.declared.report.ReportedFinding.{ReportedFinding}
use Rattle.lf_report.specs.declared.report.Report.{Report}
use Rattle.lf_report.specs.declared.report.RuleReport.{RuleReport}
use Rattle.lf_semantics.specs.ClassRows.{is_live}
use Rattle.lf_semantics.specs.Environments.{IsLeast, rule_row}
use Rattle.lf_semantics.specs.Listing.{Listing, label_of, universe_of}
use Rattle.lf_semantics.specs.RowTable.{Environment, may_be_absent, may_be_present}
use Rattle.lf_semantics.specs.Texts.{Has}
use Rattle.lf_semantics.specs.Worlds.{World, IsSample, Step}
use Rattle.lf_trials.specs.Candidates.{is_one_of, other_name}
use Rattle.lf_trials.specs.Trials.{IsNotShown, Shown, Shows}
use Rattle.lf_witness.specs.StrictRuns.{IsStrictRun, RuleStrictlyGives, rules_at}
use Rattle.lf_words.specs.declared.options.Options.{Options}
use Rattle.lf_lint.specs.Asked.{output_of, written}
use Rattle.lf_lint.specs.Ends.{Judged, Wrote}

-- the label that stands for a name: itself where it is one of the universe, and else the one for `*`, which is the first of `x1`, `x2`, .. that isn't
abbrev pub label_for : Listing → Bytes → Bytes
label_for u name = cond (is_one_of u.names name) name (other_name u)

-- the trial and the sample that a world of a report tells
abbrev pub shown_by : ShownWorld → Shown
shown_by told = record { trial = record { series = told.series; steps = told.steps }; sample = told.sample }

-- Scraped series and steps of the rules over them show a sample of rule i that has a label, or lacks it: the steps and then the rule itself evaluate strictly, and the sample
-- is the first such one. And so it is in a world of the relational evaluation: its series are these, and its steps are steps of the trial's rules in their order, each giving what its
-- rule strictly gives over the samples stored before it, and last a step of the rule itself, which gives the samples that it strictly gives behind them; the sample is one of these
pub record IsInWorld (rules : List RuleTree) (i : ℕ) (r : RuleTree) (label : Bytes) (presence : Bool) (told : ShownWorld) : Type 0 where
  pub strictly : Shows rules i label presence (shown_by told)
  pub world : World rules
  pub series : world.series ≡ told.series
  pub before : List Step
  pub run : IsStrictRun told.series (rules_at rules told.steps) strictly.stored before
  pub gives : RuleStrictlyGives strictly.stored r (Some strictly.samples)
  pub steps : world.steps ≡ before ++ record { rule = r; gives = strictly.samples } ∷ []
  pub is_one : Contains strictly.samples told.sample
  pub is_sample : IsSample world r told.sample

-- In every world of the rules, a name called guaranteed is on each sample of the rule, and one called impossible on none. Where it is called possible, the verdict has two
-- worlds: in one a sample has the label that stands for the name, and in the other one a sample lacks it. An unresolved one names the first construct that stands open for the rule, so
-- one does: in its expression, or in that of a rule that it reads
abbrev pub IsTrueOf : List RuleTree → ℕ → RuleTree → Verdict → Bytes → Bytes → Type 0
IsTrueOf rules i r Guaranteed label name = (world : World rules) (s : Labels) → IsSample world r s → Has s name
IsTrueOf rules i r Impossible label name = (world : World rules) (s : Labels) → IsSample world r s → Has s name → ⊥
IsTrueOf rules i r (Possible with without) label name =
    (IsInWorld rules i r label true with × Has with.sample label) × (IsInWorld rules i r label false without × (Has without.sample label → ⊥))
IsTrueOf rules i r (Unresolved construct rule span) label name =
    (first : OpenAt) × (later : List OpenAt) × AreOpen rules i (first ∷ later) × (construct ≡ number_of first.construct) × (rule ≡ first.rule) × (span ≡ first.span)

-- the row of the rule in the environment leaves both open, that the name is there and that it isn't
abbrev pub LeavesOpen : List RuleTree → Environment → RuleTree → Bytes → Type 0
LeavesOpen rules env r name =
    let u = universe_of rules in
    (may_be_present u (rule_row u env r) name ≡ true) × (may_be_absent u (rule_row u env r) name ≡ true)

-- no trial shows a sample with the label, or none shows one without it
abbrev pub LacksATrial : List RuleTree → Environment → ℕ → Bytes → Type 0
LacksATrial rules env i label = IsNotShown (universe_of rules) env rules i label true ⊎ IsNotShown (universe_of rules) env rules i label false

-- neither guaranteed nor impossible
abbrev pub IsUndecided : Verdict → Type 0
IsUndecided Guaranteed = ⊥
IsUndecided Impossible = ⊥
IsUndecided (Possible with without) = Unit {0}
IsUndecided (Unresolved construct rule span) = Unit {0}

abbrev pub IsUnresolved : Verdict → Type 0
IsUnresolved Guaranteed = ⊥
IsUnresolved Impossible = ⊥
IsUnresolved (Possible with without) = ⊥
IsUnresolved (Unresolved construct rule span) = Unit {0}

-- the verdict is true of the name; it is open exactly where the row leaves both open, and unresolved exactly where moreover no trials show both of the label for the name
pub record IsTrueVerdict (rules : List RuleTree) (env : Environment) (i : ℕ) (r : RuleTree) (verdict : Verdict) (name : Bytes) : Type 0 where
  pub true_of : IsTrueOf rules i r verdict (label_for (universe_of rules) name) name
  pub is_open : IsUndecided verdict ↔ LeavesOpen rules env r name
  pub unresolved : IsUnresolved verdict ↔ (LeavesOpen rules env r name × LacksATrial rules env i (label_for (universe_of rules) name))

-- A rule called empty has no sample in any world, and it is so called exactly where its row is empty
pub record IsTrueEmptiness (rules : List RuleTree) (env : Environment) (r : RuleTree) (empty : Bool) : Type 0 where
  pub exactly : (empty ≡ true) ↔ (is_live (rule_row (universe_of rules) env r) ≡ false)
  pub no_sample : empty ≡ true → (world : World rules) (s : Labels) → IsSample world r s → ⊥

-- What is said of labels: nothing where the verdicts aren't asked for; that the rule is empty; or a verdict on each label of the universe, and on `*`. Of each name the verdict of
-- its label is true, or that of `*`, which stands last, where no label is the name. A rule is called empty exactly where its row is
abbrev pub IsTrueSaid : List RuleTree → Environment → ℕ → RuleTree → Bool → Option RuleVerdicts → Type 0
IsTrueSaid rules env i r labels None = labels ≡ false
IsTrueSaid rules env i r labels (Some Empty) = (labels ≡ true) × (is_live (rule_row (universe_of rules) env r) ≡ false)
IsTrueSaid rules env i r labels (Some (OnLabels verdicts)) =
    (labels ≡ true)
    × (is_live (rule_row (universe_of rules) env r) ≡ true)
    × (length verdicts ≡ length (labels_of (universe_of rules)))
    × ((name : Bytes) → (verdict : Verdict) × (slice_get verdicts (label_of (universe_of rules) name) ≡ Some verdict) × IsTrueVerdict rules env i r verdict name)

-- a finding that is told is one of the checks, and what it claims of samples is true in every world of the rules
abbrev pub IsTrueToldFinding : List RuleTree → RuleTree → ReportedFinding → Type 0
IsTrueToldFinding rules r told = (finding : Finding) × (finding_told finding ≡ finding_in told) × IsTrueFinding rules r finding

-- what is told is told of rule i, and true of it
pub record SpeaksTruth (rules : List RuleTree) (env : Environment) (labels : Bool) (i : ℕ) (r : RuleTree) (told : RuleReport) : Type 0 where
  pub file : told.file ≡ r.file
  pub alert : told.alert ≡ r.alert
  pub name : told.name ≡ r.name
  pub name_span : told.name_span ≡ r.name_span
  pub empty : IsTrueEmptiness rules env r told.empty
  pub said : IsTrueSaid rules env i r labels told.verdicts
  pub findings : (k : ℕ) (finding : ReportedFinding) → slice_get told.findings k ≡ Some finding → IsTrueToldFinding rules r finding

-- A report on files: what is found in each file, with the rules of those that aren't refused in their order; and of each rule what is told of it, all of which is true
pub record IsTrueReport (files : List File) (rules : List RuleTree) (report : Report) : Type 0 where
  pub contents : List Content
  pub are_contents : AreContents files contents
  pub are_accepted : rules ≡ accepted contents
  pub files_said : report.files ≡ files_told files contents
  pub env : Environment
  pub least : IsLeast (universe_of rules) rules env
  -- no label is called as the one that stands for all others is
  pub no_star : Contains (universe_of rules).names (codes "*") → ⊥
  pub universe : report.universe ≡ labels_of (universe_of rules)
  pub count : length report.rules ≡ length rules
  pub all_true : (i : ℕ) (r : RuleTree) (told : RuleReport) → slice_get rules i ≡ Some r → slice_get report.rules i ≡ Some told → SpeaksTruth rules env report.labels i r told

-- a report on the files that the words ask for was written, and it is true
abbrev pub WroteTruth : List Bytes → (Bytes → Option Bytes) → Option Bytes → Option Bytes → Type 0
WroteTruth words held before now =
    (options : Options) × (files : List File) × (rules : List RuleTree) × (report : Report) × Judged words held options files report
    × Wrote before now (written (output_of options) report) × IsTrueReport files rules report
