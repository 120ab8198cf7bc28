-- What workers find of rules whose labels are asked about, and what is named first for them.
use Rattle.std.specs.Prelude.{◌≡◌, ℕ, true, List, length, Option, Some, option_and_then, slice_get}
use Rattle.lf_ast.specs.Rules.{RuleTree}
use Rattle.lf_open.specs.declared.open_at.OpenAt.{OpenAt}
use Rattle.lf_semantics.specs.Listing.{universe_of}
use Rattle.lf_forks.specs.views.Holding.{Forks}
use Rattle.lf_built.specs.views.RuleRows.{IsRowOf}
use Rattle.lf_trials.specs.Verdicts.{IsRuleVerdict}
use Rattle.lf_worlds.specs.views.Told.{rule_verdict}
use Rattle.lf_open.specs.OpenList.{IsFirstOpen}
use Rattle.lf_judge.specs.Judged.{has_unresolved}
use Rattle.lf_judge.specs.declared.at_hand.AtHand.{AtHand}
use Rattle.lf_judge.specs.declared.rule_found.RuleFound.{RuleFound}
use Rattle.lf_judge.specs.declared.rule_read.RuleRead.{RuleRead}
use Rattle.lf_worlds.specs.declared.verdict.RuleKnowledge.{RuleKnowledge}
use Rattle.lf_judge.specs.views.AtHand.{TellsFindingsAt, rules_of_hand}

-- this was read of the rule with a number: its rows, and its findings
pub record IsReadAt (h : AtHand) (forks : Forks) (number : ℕ) (read : RuleRead) : Type 0 where
  pub rule : RuleTree
  pub stands : slice_get (rules_of_hand h) number ≡ Some rule
  pub told : IsRowOf h.universe.now h.env.now forks (rules_of_hand h) rule read.row
  pub list : TellsFindingsAt h number read.findings

-- this was read of the rules, in their order
pub record AreReadAt (h : AtHand) (forks : Forks) (read : List RuleRead) : Type 0 where
  pub count : length read ≡ length h.rules.now
  pub each : (i : ℕ) (x : RuleRead) → slice_get read i ≡ Some x → IsReadAt h forks i x

-- this is known of the rule with a number: the verdict on it
abbrev pub IsKnownAt : AtHand → ℕ → RuleKnowledge → Type 0
IsKnownAt h number known = (r : RuleTree) → slice_get (rules_of_hand h) number ≡ Some r → IsRuleVerdict (universe_of (rules_of_hand h)) h.env.now (rules_of_hand h) number r (rule_verdict known)

-- this is known of the rules, in their order
pub record AreKnownAt (h : AtHand) (known : List RuleKnowledge) : Type 0 where
  pub count : length known ≡ length h.rules.now
  pub each : (i : ℕ) (x : RuleKnowledge) → slice_get known i ≡ Some x → IsKnownAt h i x

-- this is found of the rule with a number: the verdict on it, and its findings
pub record IsFoundAt (h : AtHand) (number : ℕ) (found : RuleFound) : Type 0 where
  pub verdict : IsKnownAt h number found.known
  pub list : TellsFindingsAt h number found.findings

-- these are found of the rules, in their order
pub record AreFoundAt (h : AtHand) (found : List RuleFound) : Type 0 where
  pub count : length found ≡ length h.rules.now
  pub each : (i : ℕ) (x : RuleFound) → slice_get found i ≡ Some x → IsFoundAt h i x

-- what is named at the number of a rule: nothing beyond the end of the list
abbrev pub first_at : List (Option OpenAt) → ℕ → Option OpenAt
first_at firsts i = option_and_then (λ first. first) (slice_get firsts i)

-- at the number of each rule with a label that stays unresolved, the first construct that stands open for it is named
abbrev pub NameFirsts : List RuleTree → List RuleFound → List (Option OpenAt) → Type 0
NameFirsts rules found firsts = (i : ℕ) (x : RuleFound) → slice_get found i ≡ Some x → has_unresolved (rule_verdict x.known) ≡ true → IsFirstOpen rules i (first_at firsts i)
