-- What is at hand to tell of rules.
use Rattle.std.specs.Prelude.{◌≡◌, ◌≤◌, ℕ, Bool, List, Some, length, map, slice_get}
use Rattle.lf_ast.specs.Rules.{RuleTree, rule_trees}
use Rattle.lf_ast.specs.Tree.{nodes}
use Rattle.lf_checks.specs.AlertTemplate.{HaveSources}
use Rattle.lf_checks.specs.Files.{File, StandIn}
use Rattle.lf_report.specs.declared.report.ReportedFinding.{ReportedFinding}
use Rattle.lf_report.specs.declared.report.RuleReport.{RuleReport}
use Rattle.lf_semantics.specs.ClassRows.{Sets}
use Rattle.lf_semantics.specs.Environments.{IsLeast}
use Rattle.lf_semantics.specs.Listing.{universe_of}
use Rattle.lf_semantics.specs.RowTable.{row_of}
use Rattle.lf_worlds.specs.views.Tried.{Tried}
use Rattle.lf_judge.specs.Judged.{files_of}
use Rattle.lf_judge.specs.Limits.{most_rules}
use Rattle.lf_judge.specs.declared.at_hand.AtHand.{AtHand}
use Rattle.lf_judge.specs.views.Checking.{TellsFindings, TellsRule, TellsRules}
use Rattle.lf_judge.specs.views.NamePositions.{AreNamePositions}

-- the files and the rules
abbrev pub files_at : AtHand → List File
files_at h = files_of h.files.now

abbrev pub rules_of_hand : AtHand → List RuleTree
rules_of_hand h = rule_trees h.rules.now

-- All is as it is to be: the rules are few and stand in the files, and the positions of their names, the universe, the environment and the checker are theirs
pub record IsReady (h : AtHand) : Type 0 where
  pub few : length h.rules.now ≤ most_rules
  pub stand : StandIn (files_at h) (rules_of_hand h)
  pub sources : HaveSources (rules_of_hand h)
  pub names : AreNamePositions (files_at h) (rules_of_hand h) h.names.now
  pub universe : h.universe.now ≡ universe_of (rules_of_hand h)
  pub least : IsLeast (universe_of (rules_of_hand h)) (rules_of_hand h) h.env.now
  pub checker : h.checker.now ≡ record { universe = universe_of (rules_of_hand h); env = h.env.now; rules = h.rules.now }

-- the trials are those of the rules
abbrev pub AreTrialsAt : AtHand → Tried → Type 0
AreTrialsAt h trials = trials ≡ record { universe = universe_of (rules_of_hand h); env = h.env.now; rules = h.rules.now }

-- these are the rows of the expression of the rule with a number and of all parts in it
abbrev pub ArePartRowsAt : AtHand → ℕ → List Sets → Type 0
ArePartRowsAt h number rows = (r : RuleTree) → slice_get (rules_of_hand h) number ≡ Some r → rows ≡ map (row_of h.universe.now h.env.now) (nodes r.expr)

-- these are findings of the rule with a number
abbrev pub TellsFindingsAt : AtHand → ℕ → List ReportedFinding → Type 0
TellsFindingsAt h number told = TellsFindings (files_at h) (rules_of_hand h) h.env.now number told

-- this is told of the rule with a number
abbrev pub TellsRuleAt : AtHand → Bool → ℕ → RuleReport → Type 0
TellsRuleAt h labels number told = TellsRule (files_at h) (rules_of_hand h) h.env.now labels number told

-- this is told of the rules
abbrev pub TellsRulesAt : AtHand → Bool → List RuleReport → Type 0
TellsRulesAt h labels told = TellsRules (files_at h) (rules_of_hand h) h.env.now labels told
