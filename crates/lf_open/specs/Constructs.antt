-- Open constructs: what stands in the way of an answer where a label's verdict stays unresolved. Each is said of an expression that stands in a rule's expression outside scalars.
use Rattle.std.specs.Prelude.{◌≡◌, ◌⊎◌, ℕ, true, false, List, Option, Some, None}
use Rattle.std.specs.List.{Contains}
use Rattle.lf_base.specs.declared.place.Span.{Span}
use Rattle.lf_ast.specs.Functions.{Signature, called_by}
use Rattle.lf_ast.specs.Labels.{Bytes}
use Rattle.lf_ast.specs.Rules.{RuleTree}
use Rattle.lf_ast.specs.Selectors.{selected_name}
use Rattle.lf_ast.specs.Tree.{Tree, Selector, Binary, list, span_of}
use Rattle.lf_ast.specs.declared.expr.Matcher.{Matcher}
use Rattle.lf_ast.specs.declared.expr.Op.TheVariants.{Or, Unless}
use Rattle.lf_ast.specs.declared.functions.LabelEffect.{LabelEffect}
use Rattle.lf_ast.specs.declared.functions.LabelEffect.TheVariants.{Absent, CountValues, HistogramQuantile, LabelJoin, LabelReplace}
use Rattle.lf_deps.specs.Reading.{AreApart, IsCyclic, Records}
use Rattle.lf_semantics.specs.Grouped.{is_metric}
use Rattle.lf_semantics.specs.Parts.{is_scalar_part, sought_in}
use Rattle.lf_semantics.specs.Passing.{is_plain}
use Rattle.lf_semantics.specs.PatternBreaches.{takes_pattern}
use Rattle.lf_trials.specs.Forks.{HoldsFork, is_or}
use Rattle.lf_trials.specs.Reached.{has_several_rules}
use Rattle.lf_witness.specs.Strict.{IsOpenAbsent}
use Rattle.lf_open.specs.declared.construct.Construct.{Construct}
use Rattle.lf_open.specs.declared.construct.Construct.TheVariants.{SharedMetric, UnnamedSelector, ComplexPattern, MadeLabel, Forked, LoudUnless, CyclicName, NamedBucket, OpenAbsent}
use Rattle.lf_open.specs.Holding.{CannotBeSilent, NamesLe, arguments_of}

-- the number of a construct's code: the 1 of `O1`
abbrev pub number_of : Construct → ℕ
number_of SharedMetric = 1
number_of UnnamedSelector = 2
number_of ComplexPattern = 3
number_of MadeLabel = 4
number_of Forked = 5
number_of LoudUnless = 6
number_of CyclicName = 7
number_of NamedBucket = 8
number_of OpenAbsent = 9

-- parts of expressions

-- the two sides are no scalars
abbrev pub AreVectors : Tree → Tree → Type 0
AreVectors left right = (is_scalar_part left ≡ false) × (is_scalar_part right ≡ false)

abbrev pub labels_by : Option Signature → Option LabelEffect
labels_by None = None
labels_by (Some s) = Some s.labels

-- what becomes of labels, if the expression is a call of a function or an aggregation
abbrev pub effect_of : Tree → Option LabelEffect
effect_of e = labels_by (called_by e)

-- an argument of the call
abbrev pub IsArgument : Tree → Tree → Type 0
IsArgument e x = Contains (list (arguments_of e)) x

-- the selector says this name
abbrev pub SaysName : Tree → Bytes → Type 0
SaysName (Selector name matchers sight span) said = selected_name name matchers ≡ Some said
SaysName _ said = ⊥

-- a matcher of the selector
abbrev pub IsMatcher : Tree → Matcher → Type 0
IsMatcher (Selector name matchers sight span) m = Contains matchers m
IsMatcher _ m = ⊥

module _ (rules : List RuleTree) where
  -- the two read a common metric: they aren't apart
  abbrev pub ReadInCommon : Tree → Tree → Type 0
  ReadInCommon left right = AreApart rules left right → ⊥

  -- O1: an operator between two vectors whose sides read a common metric
  abbrev pub SharesMetric : Tree → Type 0
  SharesMetric (Binary op m left right span) = AreVectors left right × ReadInCommon left right
  SharesMetric _ = ⊥

  -- O2: a selector that says no name, neither before its braces nor by `=`
  abbrev pub SaysNoName : Tree → Type 0
  SaysNoName (Selector name matchers sight span) = selected_name name matchers ≡ None
  SaysNoName _ = ⊥

  -- O3: a matcher of the selector by a pattern that isn't plain
  abbrev pub MatchesComplex : Tree → Matcher → Type 0
  MatchesComplex e m = IsMatcher e m × (takes_pattern m.op ≡ true) × (is_plain m.value ≡ false)

  -- O4: `label_replace`, `label_join` or `count_values`, which make the text of a label
  abbrev pub MakesLabel : Tree → Type 0
  MakesLabel e = (effect_of e ≡ Some LabelReplace) ⊎ ((effect_of e ≡ Some LabelJoin) ⊎ (effect_of e ≡ Some CountValues))

  -- O5, of four forms

  -- a rule of the name holds a fork
  abbrev pub HasForkInMaking : Bytes → Type 0
  HasForkInMaking name = (r : RuleTree) × Contains rules r × Records r name × HoldsFork rules r.expr

  -- an operator between two vectors, other than `or`, beneath which a fork stands
  abbrev pub JoinsFork : Tree → Type 0
  JoinsFork (Binary op m left right span) = (is_or op ≡ false) × AreVectors left right × (HoldsFork rules left ⊎ HoldsFork rules right)
  JoinsFork _ = ⊥

  -- a `histogram_quantile` beneath which a fork stands
  abbrev pub IsQuantileOfFork : Tree → Type 0
  IsQuantileOfFork e = (effect_of e ≡ Some HistogramQuantile) × ((x : Tree) × IsArgument e x × HoldsFork rules x)

  -- a selector with a matcher on another label than the metric name, of a recorded name that several rules record or that has a fork in its making
  abbrev pub NarrowsFork : Tree → Type 0
  NarrowsFork e =
      ((m : Matcher) × IsMatcher e m × (is_metric m.label ≡ false))
      × ((name : Bytes) × SaysName e name × ((has_several_rules rules name ≡ true) ⊎ HasForkInMaking name))

  -- an `or` with a side that can't be silent
  abbrev pub IsLoudOr : Tree → Type 0
  IsLoudOr (Binary Or m left right span) = AreVectors left right × (CannotBeSilent rules left ⊎ CannotBeSilent rules right)
  IsLoudOr _ = ⊥

  -- O5: one of the four
  abbrev pub IsForked : Tree → Type 0
  IsForked e = JoinsFork e ⊎ (IsQuantileOfFork e ⊎ (NarrowsFork e ⊎ IsLoudOr e))

  -- O6: an `unless` whose right side can't be silent
  abbrev pub IsLoudUnless : Tree → Type 0
  IsLoudUnless (Binary Unless m left right span) = AreVectors left right × CannotBeSilent rules right
  IsLoudUnless _ = ⊥

  -- O7: a selector of a recorded name that is read in its own making
  abbrev pub SaysCyclicName : Tree → Type 0
  SaysCyclicName e = (name : Bytes) × SaysName e name × IsCyclic rules name

  -- O8: a `histogram_quantile` beneath which a matcher or a recording rule names `le`
  abbrev pub IsQuantileOfNamed : Tree → Type 0
  IsQuantileOfNamed e = (effect_of e ≡ Some HistogramQuantile) × ((x : Tree) × IsArgument e x × NamesLe rules x)

  -- O9: an `absent` that is open, or whose argument can't be silent
  abbrev pub IsDoubtfulAbsent : Tree → Type 0
  IsDoubtfulAbsent e = (effect_of e ≡ Some Absent) × (IsOpenAbsent (sought_in (arguments_of e)) ⊎ ((x : Tree) × IsArgument e x × CannotBeSilent rules x))

  -- the expression is the construct, or has it, at this span: at the string of a pattern, and else at the operator, the word or the selector
  abbrev pub IsOpenAt : Construct → Tree → Span → Type 0
  IsOpenAt SharedMetric e span = SharesMetric e × (span ≡ span_of e)
  IsOpenAt UnnamedSelector e span = SaysNoName e × (span ≡ span_of e)
  IsOpenAt ComplexPattern e span = (m : Matcher) × MatchesComplex e m × (span ≡ m.value_span)
  IsOpenAt MadeLabel e span = MakesLabel e × (span ≡ span_of e)
  IsOpenAt Forked e span = IsForked e × (span ≡ span_of e)
  IsOpenAt LoudUnless e span = IsLoudUnless e × (span ≡ span_of e)
  IsOpenAt CyclicName e span = SaysCyclicName e × (span ≡ span_of e)
  IsOpenAt NamedBucket e span = IsQuantileOfNamed e × (span ≡ span_of e)
  IsOpenAt OpenAbsent e span = IsDoubtfulAbsent e × (span ≡ span_of e)
