-- When a rule has no open construct: neither in its expression nor in the expressions of the rules that it reads, directly or through others. Nothing within a scalar is
-- looked at.
use Rattle.std.specs.Prelude.{◌≡◌, ◌⊎◌, ℕ, true, List, Option, Some, None, codes}
use Rattle.std.specs.List.{AllByRecursion, Contains, list_any}
use Rattle.std.specs.Str.{bytes_eq}
use Rattle.lf_ast.specs.Functions.{Signature, aggregation, function_named}
use Rattle.lf_ast.specs.Labels.{Bytes}
use Rattle.lf_ast.specs.Rules.{RuleTree}
use Rattle.lf_ast.specs.Selectors.{selected_name}
use Rattle.lf_ast.specs.Tree.{Tree, Trees, Number, Str, Selector, Subquery, Paren, Unary, Binary, Call, Aggregate, Nil, Next}
use Rattle.lf_ast.specs.declared.expr.Matcher.{Matcher}
use Rattle.lf_ast.specs.declared.expr.MatchOp.TheVariants.{Equal, NotEqual}
use Rattle.lf_ast.specs.declared.expr.Op.{Op}
use Rattle.lf_ast.specs.declared.expr.Op.TheVariants.{Or, Unless}
use Rattle.lf_ast.specs.declared.functions.LabelEffect.{LabelEffect}
use Rattle.lf_ast.specs.declared.functions.LabelEffect.TheVariants.{CountValues, Absent, LabelReplace, LabelJoin, HistogramQuantile}
use Rattle.lf_semantics.specs.Grouped.{is_metric}
use Rattle.lf_semantics.specs.Parts.{is_scalar_part, operand_place, sought_in}
use Rattle.lf_semantics.specs.Passing.{is_plain}
use Rattle.lf_deps.specs.Reading.{AreApart, IsCyclic, Reaches}
use Rattle.lf_witness.specs.Strict.{IsOpenAbsent}
use Rattle.lf_trials.specs.Built.{sets_label}
use Rattle.lf_trials.specs.Forks.{HoldsFork}
use Rattle.lf_trials.specs.Selected.{selectors_of}
use Rattle.lf_shown.specs.Silence.{argument_can_be_silent, can_be_silent}

-- the matcher compares with a text, or its pattern is plain
abbrev pub IsPlainMatcher : Matcher → Type 0
IsPlainMatcher m = (m.op ≡ Equal) ⊎ ((m.op ≡ NotEqual) ⊎ (is_plain m.value ≡ true))

-- a matcher of the expression names `le`
abbrev pub MatchesBucket : Tree → Type 0
MatchesBucket e = (s : _) × Contains (selectors_of e) s × (list_any (λ m. bytes_eq m.label (codes "le")) s.matchers ≡ true)

-- the same, or a rule that the expression reads has such a matcher or sets `le` by a label
abbrev pub NamesBucket : List RuleTree → Tree → Type 0
NamesBucket rules e =
    MatchesBucket e ⊎ ((r : RuleTree) × Contains rules r × Reaches rules e r × (MatchesBucket r.expr ⊎ (sets_label r (codes "le") ≡ true)))

-- nothing is asked of a scalar
abbrev pub UnlessScalar : Tree → Type 0 → Type 0
UnlessScalar e P = (is_scalar_part e ≡ true) ⊎ P

module _ (rules : List RuleTree) where
  abbrev pub HoldsNoFork : Tree → Type 0
  HoldsNoFork e = HoldsFork rules e → ⊥

  -- A selector says its name, which isn't read in its own making, and its patterns are plain. Where the name has a fork in its making or several rules, only the name is
  -- matched.
  pub record SelectorIsClosed (e : Tree) (said : Option Bytes) (matchers : List Matcher) : Type 0 where
    pub name : Bytes
    pub says : said ≡ Some name
    pub acyclic : IsCyclic rules name → ⊥
    pub plain : AllByRecursion IsPlainMatcher matchers
    pub unmatched : HoldsFork rules e → AllByRecursion (λ m. is_metric m.label ≡ true) matchers

  -- the sides of an `or` can be silent, and so can the right side of `unless`; beneath any operator but `or` there is no fork
  abbrev pub SidesAreClosed : Op → Tree → Tree → Tree → Type 0
  SidesAreClosed Or e left right = (can_be_silent left ≡ true) × (can_be_silent right ≡ true)
  SidesAreClosed Unless e left right = HoldsNoFork e × (can_be_silent right ≡ true)
  SidesAreClosed _ e left right = HoldsNoFork e

  -- the sides of an operator between two vectors read no common name
  abbrev pub OperatorIsClosed : Op → Tree → Tree → Tree → Type 0
  OperatorIsClosed op e left right = AreApart rules left right × SidesAreClosed op e left right

  abbrev pub EffectIsClosed : LabelEffect → Tree → Trees → ℕ → Type 0
  EffectIsClosed CountValues e args place = ⊥
  EffectIsClosed LabelReplace e args place = ⊥
  EffectIsClosed LabelJoin e args place = ⊥
  EffectIsClosed HistogramQuantile e args place = HoldsNoFork e × (NamesBucket rules e → ⊥)
  EffectIsClosed Absent e args place = (IsOpenAbsent (sought_in args) → ⊥) × (argument_can_be_silent args place ≡ true)
  EffectIsClosed _ e args place = Unit {0}

  abbrev pub CallIsClosed : Option Signature → Tree → Trees → Type 0
  CallIsClosed None e args = Unit {0}
  CallIsClosed (Some s) e args = EffectIsClosed s.labels e args (operand_place s)

  abbrev mutual
    -- no construct of the expression is open
    pub IsClosedIn : Tree → Type 0
    IsClosedIn (Number text span) = Unit {0}
    IsClosedIn (Str text span) = Unit {0}
    IsClosedIn (Selector name matchers sight span) = SelectorIsClosed (Selector name matchers sight span) (selected_name name matchers) matchers
    IsClosedIn (Subquery of sight span) = UnlessScalar of (IsClosedIn of)
    IsClosedIn (Paren of span) = UnlessScalar of (IsClosedIn of)
    IsClosedIn (Unary minus of span) = UnlessScalar of (IsClosedIn of)
    IsClosedIn (Binary op m left right span) =
        UnlessScalar left (IsClosedIn left) × UnlessScalar right (IsClosedIn right)
        × UnlessScalar left (UnlessScalar right (OperatorIsClosed op (Binary op m left right span) left right))
    IsClosedIn (Call name args span) = ArgumentsAreClosed args × CallIsClosed (function_named name) (Call name args span) args
    IsClosedIn (Aggregate op grouping args span) = ArgumentsAreClosed args × CallIsClosed (Some (aggregation op)) (Aggregate op grouping args span) args

    pub ArgumentsAreClosed : Trees → Type 0
    ArgumentsAreClosed Nil = Unit {0}
    ArgumentsAreClosed (Next x xs) = UnlessScalar x (IsClosedIn x) × ArgumentsAreClosed xs

  abbrev pub IsClosed : Tree → Type 0
  IsClosed e = UnlessScalar e (IsClosedIn e)

  -- no construct is open in the expression or in one that it reads
  pub record HasNoneOpen (e : Tree) : Type 0 where
    pub own : IsClosed e
    pub read : (r : RuleTree) → Contains rules r → Reaches rules e r → IsClosed r.expr
