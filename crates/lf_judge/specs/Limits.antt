-- Limits on the rules of all files together.
use Rattle.std.specs.Prelude.{◌≡◌, ◌<◌, ◌≤◌, ℕ, ◌+◌, ◌-◌, ◌*◌, ◌/◌, ◌^◌, Bool, true, List, length, min, ◌⊎◌}
use Rattle.lf_ast.specs.Rules.{RuleTree}
use Rattle.lf_checks.specs.Files.{File}
use Rattle.lf_classes.specs.Limits.{most_classes, most_labels}
use Rattle.lf_semantics.specs.Environments.{recorded_names}
use Rattle.lf_semantics.specs.Listing.{class_count, label_count, universe_of}
use Rattle.lf_worlds.specs.Measure.{IsLabelSelectors}
use Rattle.lf_judge.specs.Founds.{AreContents, Content, accepted}
use Rattle.lf_judge.specs.declared.judge_end.JudgeEnd.{JudgeEnd}
use Rattle.lf_judge.specs.declared.judge_end.JudgeEnd.TheVariants.{Memory, Limit}

-- the most rules that may be accepted
abbrev pub most_rules : ℕ
most_rules = 20000

-- the most words of 64 classes that the rows of all recorded names may have
abbrev pub most_words : ℕ
most_words = 4194304

-- the words of the rows of all recorded names
abbrev pub word_count : List RuleTree → ℕ
word_count rules = length (recorded_names rules) * ((class_count (universe_of rules) + 63) / 64)

-- the most labels, times selectors, that trials are made for
abbrev pub most_selected : ℕ
most_selected = 4194304

-- The rules pass no limit: on their number, on the labels of their universe, on the classes of these labels, on the words of rows; and, where verdicts on labels are asked
-- for, on the labels times the selectors that there are to try
pub record AreWithin (labels : Bool) (rules : List RuleTree) : Type 0 where
  pub rules_fit : length rules ≤ most_rules
  pub labels_fit : label_count (universe_of rules) ≤ most_labels
  pub classes_fit : class_count (universe_of rules) ≤ most_classes
  pub words_fit : word_count rules ≤ most_words
  pub trials_fit : labels ≡ true → (n : ℕ) × IsLabelSelectors (universe_of rules) rules n × (n ≤ most_selected)

-- there is too much to try, and the count is the number of labels times selectors, or 2^64 - 1 where that is greater
abbrev pub IsTooMuch : List RuleTree → ℕ → Type 0
IsTooMuch rules count = (n : ℕ) × IsLabelSelectors (universe_of rules) rules n × (most_selected < n) × (count ≡ min n (2 ^ 64 - 1))

-- the first limit that the rules pass is the one on this quantity, with this count: 4 is the rules, 5 the labels, 6 the classes, 7 the words, and 8, where verdicts on labels
-- are asked for, the labels times the selectors
abbrev pub Exceeds : Bool → List RuleTree → ℕ → ℕ → Type 0
Exceeds labels rules quantity count =
    ((quantity ≡ 4) × (count ≡ length rules) × (most_rules < count))
    ⊎ ((length rules ≤ most_rules)
    × (((quantity ≡ 5) × (count ≡ label_count (universe_of rules)) × (most_labels < count))
    ⊎ ((label_count (universe_of rules) ≤ most_labels)
    × (((quantity ≡ 6) × (count ≡ class_count (universe_of rules)) × (most_classes < count))
    ⊎ ((class_count (universe_of rules) ≤ most_classes)
    × (((quantity ≡ 7) × (count ≡ word_count rules) × (most_words < count))
    ⊎ ((word_count rules ≤ most_words) × (labels ≡ true) × (quantity ≡ 8) × IsTooMuch rules count)))))))

-- why there is no report on rules: they pass a limit. Memory has no cause in the rules
abbrev pub EndsWith : Bool → List RuleTree → JudgeEnd → Type 0
EndsWith labels rules Memory = Unit {0}
EndsWith labels rules (Limit quantity count) = Exceeds labels rules quantity count

-- what stands in these files passes no limit
abbrev pub AreWithinLimits : Bool → List File → Type 0
AreWithinLimits labels files = (contents : List Content) × AreContents files contents × AreWithin labels (accepted contents)

-- why there is no report on these files: their rules pass a limit
abbrev pub EndsIn : Bool → List File → JudgeEnd → Type 0
EndsIn labels files end = (contents : List Content) × AreContents files contents × EndsWith labels (accepted contents) end
