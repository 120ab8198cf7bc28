-- Of an expression that the universe covers it has the name that a selector says, and the last bucket of `histogram_quantile`.
use Rattle.std.proofs.Common.{◌≡◌, ◌<◌, Bool, true, false, ◌&&◌, cond, List, [], ◌∷◌, ◌++◌, Option, Some, None, subst, refl}
use Rattle.std.specs.List.{AllByRecursion}
use Rattle.std.specs.Str.{bytes_eq}
use Rattle.std.proofs.lemmas.Option.{same_Some}
use Rattle.lf_laws.proofs.Members.{true_same}
use Rattle.lf_base.specs.declared.place.Span.{Span}
use Rattle.lf_ast.specs.Arguments.{texts_of}
use Rattle.lf_ast.specs.Functions.{Signature, function_named}
use Rattle.lf_ast.specs.Labels.{Bytes}
use Rattle.lf_ast.specs.Selectors.{first_equal_name, is_equal, metric, selected_name}
use Rattle.lf_ast.specs.Tree.{Trees, Selector, Call}
use Rattle.lf_ast.specs.declared.expr.Matcher.{Matcher}
use Rattle.lf_ast.specs.declared.expr.MatchOp.{MatchOp}
use Rattle.lf_ast.specs.declared.expr.MatchOp.TheVariants.{Equal, NotEqual, Matches, NotMatches}
use Rattle.lf_ast.specs.declared.expr.Sight.{Sight}
use Rattle.lf_ast.specs.declared.functions.LabelEffect.{LabelEffect}
use Rattle.lf_ast.specs.declared.functions.LabelEffect.TheVariants.{HistogramQuantile}
use Rattle.lf_classes.specs.Limits.{IsWithin}
use Rattle.lf_semantics.specs.Environments.{Covers}
use Rattle.lf_semantics.specs.Listing.{Listing, class_of, label_of, other_class}
use Rattle.lf_semantics.specs.Mentions.{arguments_mentions, effect_mentions, matcher_texts, matchers_mentions, name_mentions}
use Rattle.lf_semantics.proofs.Constructs.{AllKnown}
use Rattle.lf_semantics.proofs.Operands.{call_known}
use Rattle.lf_candidates.specs.views.ClassTexts.{KnowsBuckets, KnowsName}
use Rattle.lf_candidates.proofs.Labelled.{metric_number}

module _ (u : Listing) where
  -- the last bucket
  pub buckets_known : (name : Bytes) (args : Trees) (span : Span) (s : Signature) → function_named name ≡ Some s → s.labels ≡ HistogramQuantile → Covers u (Call name args span) → KnowsBuckets u
  buckets_known name args span s is effect known =
      let P : LabelEffect → Type 0 = λ e. AllKnown u (effect_mentions e (texts_of args) (arguments_mentions args)) in
      (subst P effect (call_known u name args span s is known).0).0

  module _ (within : IsWithin u) where
    abbrev Knows : Bytes → Bytes → Type 0
    Knows label name = class_of u (label_of u label) name < other_class u (label_of u label)

    of_metric : (name : Bytes) → Knows metric name → KnowsName u name
    of_metric name known = subst (λ l. class_of u l name < other_class u l) (metric_number u within) known

    by_equal : (op : MatchOp) (label value : Bytes) → is_equal op ≡ true → AllByRecursion (Knows label) (matcher_texts op value) → Knows label value
    by_equal Equal label value is known = known.0
    by_equal NotEqual label value is known = absurd (cc)
    by_equal Matches label value is known = absurd (cc)
    by_equal NotMatches label value is known = absurd (cc)

    by_matchers : (matchers : List Matcher) (name : Bytes) → AllKnown u (matchers_mentions matchers) → first_equal_name matchers ≡ Some name → Knows metric name
    by_matchers [] name known says = absurd (cc)
    by_matchers (m ∷ matchers) name known says = by (is_equal m.op) (bytes_eq m.label metric) refl refl says (by_matchers matchers name known.1)
      where
        by : (a b : Bool) → is_equal m.op ≡ a → bytes_eq m.label metric ≡ b → cond (a && b) (Some m.value) (first_equal_name matchers) ≡ Some name → (first_equal_name matchers ≡ Some name → Knows metric name) → Knows metric name
        by true true equal same e later = subst (Knows metric) (same_Some m.value name e) (subst (λ l. Knows l m.value) (true_same m.label metric same) (by_equal m.op m.label m.value equal known.0.1))
        by true false equal same e later = later e
        by false b equal same e later = later e

    says_known : (said : Option Bytes) (matchers : List Matcher) (name : Bytes) → AllKnown u (name_mentions said ++ matchers_mentions matchers) → selected_name said matchers ≡ Some name → Knows metric name
    says_known (Some own) matchers name known says = subst (Knows metric) (same_Some own name says) known.0.1.0
    says_known None matchers name known says = by_matchers matchers name known says

    -- the name that a selector says
    pub selected_name_known : (said : Option Bytes) (matchers : List Matcher) (sight : Sight) (span : Span) (name : Bytes) → Covers u (Selector said matchers sight span) → selected_name said matchers ≡ Some name → KnowsName u name
    selected_name_known said matchers sight span name known says = of_metric name (says_known said matchers name known says)
