-- The law of dependence: by induction over the expression. A selector that says a name gives samples of this name alone, and each construct goes by what its operands give.
use Rattle.std.proofs.Common.{◌≡◌, inl, ℕ, zero, suc, Bool, true, false, cond, List, [], ◌++◌, Option, Some, None, refl, sym, subst}
use Rattle.std.proofs.lemmas.List.Elements.{Contains-append_left, Contains-append_right}
use Rattle.std.specs.List.{Contains}
use Rattle.lf_laws.proofs.Members.{here}
use Rattle.lf_ast.specs.Functions.{aggregation, function_named}
use Rattle.lf_ast.specs.Labels.{Bytes, Labels}
use Rattle.lf_ast.specs.Rules.{RuleTree}
use Rattle.lf_ast.specs.Selectors.{selected_name}
use Rattle.lf_ast.specs.Tree.{Tree, Trees, Number, Str, Selector, Subquery, Paren, Unary, Binary, Call, Aggregate, Nil, Next}
use Rattle.lf_ast.specs.declared.expr.Grouping.TheVariants.{None as Ungrouped}
use Rattle.lf_ast.specs.declared.expr.Matcher.{Matcher}
use Rattle.lf_semantics.specs.Parts.{is_scalar_part}
use Rattle.lf_semantics.proofs.SelectorsRepresent.{selected_name_is}
use Rattle.lf_witness.specs.Strict.{AreSelected, ArgumentStrictlyEvaluates, IsSet, StrictlyEvaluates}
use Rattle.lf_witness.specs.StrictRuns.{IsStrictAnswer}
use Rattle.lf_witness.proofs.SameSamples.{Into, binary_into, call_into, sign_into}
use Rattle.lf_deps.specs.Reading.{selectors, selectors_in, arguments_selectors, Reads}
use Rattle.lf_shown.specs.Agreement.{AgreeOn, MetricNames}
use Rattle.lf_dependence.specs.Dependence.{DependsOnRead, DependsOnOwn, EachSaysName, OwnNames}
use Rattle.lf_dependence.proofs.NamesSaid.{each_says}
use Rattle.lf_dependence.proofs.Scalars.{of_scalar}

module _ (W V : List Labels) where
  -- a name is selected, and the samples agree on it
  abbrev IsAgreed : Option Bytes → Type 0
  IsAgreed selects = (name : Bytes) × (selects ≡ Some name) × AgreeOn (λ other. other ≡ name) W V

  abbrev AreAgreed : List (Option Bytes) → Type 0
  AreAgreed found = (selects : Option Bytes) → Contains found selects → IsAgreed selects

  agreed_front : (front back : List (Option Bytes)) → AreAgreed (front ++ back) → AreAgreed front
  agreed_front front back agreed selects c = agreed selects (Contains-append_left front back selects c)

  agreed_back : (front back : List (Option Bytes)) → AreAgreed (front ++ back) → AreAgreed back
  agreed_back front back agreed selects c = agreed selects (Contains-append_right front back selects c)

  -- what the expression gives over W it gives over V
  abbrev pub Carries : Tree → Type 0
  Carries e = Into (StrictlyEvaluates W e) (StrictlyEvaluates V e)

  -- a selector gives samples of the name that it says alone
  of_selector : (name : Option Bytes) (matchers : List Matcher) → IsAgreed (selected_name name matchers) → Into (IsSet (AreSelected W name matchers)) (IsSet (AreSelected V name matchers))
  of_selector name matchers agreed None is = is
  of_selector name matchers (said, says, same) (Some R) is = (
    λ s c named passes. is.0 s ((same s (selected_name_is name matchers s said named passes says)).1 c) named passes,
    λ s c. let found = is.1 s c in ((same s (selected_name_is name matchers s said found.1 found.2 says)).0 found.0, found.1, found.2),
  )

  -- nothing need agree for a scalar
  of_part : (e : Tree) → (AreAgreed (selectors_in e) → Carries e) → AreAgreed (selectors e) → Carries e
  of_part e within = by (is_scalar_part e) refl
    where
      by : (b : Bool) → is_scalar_part e ≡ b → AreAgreed (cond b [] (selectors_in e)) → Carries e
      by true is agreed = of_scalar W V e is
      by false is agreed = within agreed

  mutual
    carries : (e : Tree) → AreAgreed (selectors_in e) → Carries e
    carries (Number text span) agreed = λ o is. is
    carries (Str text span) agreed = λ o is. is
    carries (Selector name matchers sight span) agreed = of_selector name matchers (agreed (selected_name name matchers) (here (selected_name name matchers) []))
    carries (Subquery of sight span) agreed = of_part of (carries of) agreed
    carries (Paren of span) agreed = of_part of (carries of) agreed
    carries (Unary minus of span) agreed = sign_into (StrictlyEvaluates W of) (StrictlyEvaluates V of) (of_part of (carries of) agreed) minus
    carries (Binary op m left right span) agreed =
        binary_into op m (StrictlyEvaluates W left) (StrictlyEvaluates V left) (StrictlyEvaluates W right) (StrictlyEvaluates V right)
        (of_part left (carries left) (agreed_front (selectors left) (selectors right) agreed)) (of_part right (carries right) (agreed_back (selectors left) (selectors right) agreed))
        (is_scalar_part left) (is_scalar_part right)
    carries (Call name args span) agreed = call_into (function_named name) Ungrouped args (ArgumentStrictlyEvaluates W args) (ArgumentStrictlyEvaluates V args) (carries_argument args agreed)
    carries (Aggregate op grouping args span) agreed = call_into (Some (aggregation op)) grouping args (ArgumentStrictlyEvaluates W args) (ArgumentStrictlyEvaluates V args) (carries_argument args agreed)

    carries_argument : (args : Trees) → AreAgreed (arguments_selectors args) → (k : ℕ) → Into (ArgumentStrictlyEvaluates W args k) (ArgumentStrictlyEvaluates V args k)
    carries_argument Nil agreed k = λ o is. is
    carries_argument (Next x xs) agreed zero = of_part x (carries x) (agreed_front (selectors x) (arguments_selectors xs) agreed)
    carries_argument (Next x xs) agreed (suc k) = carries_argument xs (agreed_back (selectors x) (arguments_selectors xs) agreed) k

  module _ (rules : List RuleTree) (e : Tree) (says : EachSaysName rules e) (agree : AgreeOn (OwnNames e) W V) where
    all_agreed : AreAgreed (selectors e)
    all_agreed None c = absurd (each_says rules e says c)
    all_agreed (Some name) c = (name, refl, λ s is. agree s (subst (λ (n : Bytes). Contains (selectors e) (Some n)) (sym is) c))

    pub outcome_carries : Carries e
    outcome_carries = of_part e (carries e) all_agreed

    answer_carries : Into (IsStrictAnswer W e) (IsStrictAnswer V e)
    answer_carries None is = outcome_carries None is
    answer_carries (Some R) is = (outcome_carries (Some R) is.0, is.1)

turned : (these : MetricNames) (W V : List Labels) → AgreeOn these W V → AgreeOn these V W
turned these W V agree s read = let both = agree s read in (both.1, both.0)

pub depends_on_own : DependsOnOwn
depends_on_own rules e says W V agree o = (answer_carries W V rules e says agree o, answer_carries V W rules e says (turned (OwnNames e) W V agree) o)

pub depends_on_read : DependsOnRead
depends_on_read rules e says W V agree = depends_on_own rules e says W V (λ s said. agree s (Reads.selected (inl said)))
