-- Mentions: which labels rules name, in the order of their text, and which texts they name with each.
use Rattle.std.specs.Prelude.{◌⊎◌, Bool, true, false, nat_lt, cond, List, [], ◌∷◌, ◌++◌, map, Option, Some, None, codes}
use Rattle.std.specs.List.{flat_map}
use Rattle.std.specs.Option.{option_map_or}
use Rattle.std.specs.Str.{chars}
use Rattle.lf_ast.specs.Arguments.{has_dollar, text_at, texts_of}
use Rattle.lf_ast.specs.Functions.{Signature, aggregation, function_named}
use Rattle.lf_ast.specs.Labels.{Bytes}
use Rattle.lf_ast.specs.Rules.{RuleTree}
use Rattle.lf_ast.specs.Selectors.{metric}
use Rattle.lf_ast.specs.Tree.{Tree, Trees, Number, Str, Selector, Subquery, Paren, Unary, Binary, Call, Aggregate, Nil, Next, span_of}
use Rattle.lf_ast.specs.Types.{names_at}
use Rattle.lf_base.specs.Names.{is_label_name}
use Rattle.lf_ast.specs.declared.expr.Grouping.{Grouping}
use Rattle.lf_ast.specs.declared.expr.Grouping.TheVariants.{None as Ungrouped, By, Without}
use Rattle.lf_ast.specs.declared.expr.Matcher.{Matcher}
use Rattle.lf_ast.specs.declared.expr.Matching.{Matching}
use Rattle.lf_ast.specs.declared.expr.MatchOp.{MatchOp}
use Rattle.lf_ast.specs.declared.expr.MatchOp.TheVariants.{Equal, NotEqual, Matches, NotMatches}
use Rattle.lf_ast.specs.declared.expr.Name.{Name}
use Rattle.lf_ast.specs.declared.functions.LabelEffect.{LabelEffect}
use Rattle.lf_ast.specs.declared.functions.LabelEffect.TheVariants.{CountValues, LabelReplace, LabelJoin, HistogramQuantile}
use Rattle.lf_pattern.specs.Plain.{HasAlternatives, IsPlainPattern}
use Rattle.lf_pattern.specs.SampleScan.{both_added}
use Rattle.lf_pattern.specs.Samples.{AreSamples}
use Rattle.lf_pattern.specs.Scan.{alternatives_of}
use Rattle.lf_pattern.specs.ShapeScan.{read_from, start}
use Rattle.lf_semantics.specs.Strings.{Joining, Replacing, joining, replacing}

-- a label that is named, and texts that are named with it
pub record Mention : Type 0 where
  pub label : Bytes
  pub texts : List Bytes

abbrev pub mention : Bytes → List Bytes → Mention
mention label texts = record { label = label; texts = texts }

-- texts

-- the texts of a pattern: of a plain one its alternatives, and of any other its samples
abbrev pub AreTextsOf : Bytes → List Bytes → Type 0
AreTextsOf pattern texts = HasAlternatives pattern texts ⊎ ((IsPlainPattern pattern → ⊥) × AreSamples pattern texts)

-- The same as a function, by the scans of patterns, for the universe to be computed with: `texts_are` and `texts_are_only` of proofs/PatternTexts say that it gives the
-- texts of `AreTextsOf`, and that no other list has them.

abbrev pub samples_of : Bytes → List Bytes
samples_of pattern = option_map_or (both_added pattern) (read_from start (chars pattern)) []

abbrev pub alternatives_or_samples : Option (List Bytes) → Bytes → List Bytes
alternatives_or_samples (Some alternatives) pattern = alternatives
alternatives_or_samples None pattern = samples_of pattern

abbrev pub pattern_texts : Bytes → List Bytes
pattern_texts pattern = alternatives_or_samples (alternatives_of pattern) pattern

abbrev pub matcher_texts : MatchOp → Bytes → List Bytes
matcher_texts Equal value = value ∷ []
matcher_texts NotEqual value = value ∷ []
matcher_texts Matches value = pattern_texts value
matcher_texts NotMatches value = pattern_texts value

-- a replacement without `$` is a text
abbrev pub replacement_texts : Bytes → List Bytes
replacement_texts replacement = cond (has_dollar replacement) [] (replacement ∷ [])

-- expressions

abbrev pub names_mentions : List Name → List Mention
names_mentions names = map (λ n. mention n.text []) names

abbrev pub name_mentions : Option Bytes → List Mention
name_mentions None = []
name_mentions (Some name) = mention metric (name ∷ []) ∷ []

abbrev pub matchers_mentions : List Matcher → List Mention
matchers_mentions matchers = map (λ m. mention m.label (matcher_texts m.op m.value)) matchers

-- `on` or `ignoring`, and behind it the list of the group modifier
abbrev pub modifier_mentions : Matching → List Mention
modifier_mentions m = names_mentions (names_at m.on) ++ (names_mentions (names_at m.ignoring) ++ names_mentions m.include)

-- a source that is no label name is no label
abbrev pub source_mentions : Bytes → Bytes → List Mention
source_mentions source pattern = cond (is_label_name source) (mention source (pattern_texts pattern) ∷ []) []

abbrev pub replacing_mentions : Replacing → List Mention
replacing_mentions p = mention p.target (replacement_texts p.replacement) ∷ source_mentions p.source p.pattern

abbrev pub joining_mentions : Joining → List Mention
joining_mentions p = mention p.target [] ∷ map (λ source. mention source []) p.sources

-- what a function names by its own strings, before or behind what its arguments name. `histogram_quantile` names `le` at its word
abbrev pub effect_mentions : LabelEffect → List Bytes → List Mention → List Mention
effect_mentions HistogramQuantile texts operands = mention (codes "le") (codes "+Inf" ∷ []) ∷ operands
effect_mentions CountValues texts operands = mention (text_at texts 0) [] ∷ operands
effect_mentions LabelReplace texts operands = operands ++ replacing_mentions (replacing texts)
effect_mentions LabelJoin texts operands = operands ++ joining_mentions (joining texts)
effect_mentions _ texts operands = operands

abbrev pub call_mentions : Option Signature → List Bytes → List Mention → List Mention
call_mentions None texts operands = operands
call_mentions (Some s) texts operands = effect_mentions s.labels texts operands

abbrev pub group_names : Grouping → List Name
group_names Ungrouped = []
group_names (By names) = names
group_names (Without names) = names

-- a grouping stands between the word and the arguments, or behind them: its first label says so. At equal starts, which no text has, it counts as behind. Without a label
-- or an argument there is no order to tell
abbrev pub stands_first : List Name → Trees → Bool
stands_first (n ∷ names) (Next arg args) = nat_lt n.span.start (span_of arg).start
stands_first _ _ = true

abbrev pub grouped_mentions : Bool → List Mention → List Mention → List Mention
grouped_mentions true grouping arguments = grouping ++ arguments
grouped_mentions false grouping arguments = arguments ++ grouping

abbrev mutual
  -- what an expression names, in the order of its text
  pub mentions : Tree → List Mention
  mentions (Number text span) = []
  mentions (Str text span) = []
  mentions (Selector name matchers sight span) = name_mentions name ++ matchers_mentions matchers
  mentions (Subquery of sight span) = mentions of
  mentions (Paren of span) = mentions of
  mentions (Unary minus of span) = mentions of
  mentions (Binary op m left right span) = mentions left ++ (modifier_mentions m ++ mentions right)
  mentions (Call name args span) = call_mentions (function_named name) (texts_of args) (arguments_mentions args)
  mentions (Aggregate op grouping args span) =
      grouped_mentions (stands_first (group_names grouping) args) (names_mentions (group_names grouping)) (effect_mentions (aggregation op).labels (texts_of args) (arguments_mentions args))

  -- what arguments name, one after the other
  pub arguments_mentions : Trees → List Mention
  arguments_mentions Nil = []
  arguments_mentions (Next x xs) = mentions x ++ arguments_mentions xs

-- rules

-- a rule: its expression, and of a recording rule then the recorded name and the labels
abbrev pub rule_mentions : RuleTree → List Mention
rule_mentions r = mentions r.expr ++ cond r.alert [] (mention metric (r.name ∷ []) ∷ map (λ l. mention l.key (l.value ∷ [])) r.labels)

abbrev pub rules_mentions : List RuleTree → List Mention
rules_mentions rules = flat_map rule_mentions rules
