-- What an expression holds, in itself or in the rules that it reads, directly or through others.
use Rattle.std.specs.Prelude.{◌≡◌, ◌⊎◌, Bool, true, false, ◌||◌, List, Option, Some, None, codes}
use Rattle.std.specs.List.{Contains, list_any}
use Rattle.std.specs.Str.{bytes_eq}
use Rattle.lf_ast.specs.Functions.{Signature, called_by}
use Rattle.lf_ast.specs.Rules.{RuleTree}
use Rattle.lf_ast.specs.Tree.{Tree, Trees, Selector, Call, Nil, Next}
use Rattle.lf_ast.specs.declared.functions.LabelEffect.{LabelEffect}
use Rattle.lf_ast.specs.declared.functions.LabelEffect.TheVariants.{Absent, Bare, Date}
use Rattle.lf_deps.specs.Reading.{Reaches}
use Rattle.lf_semantics.specs.Standing.{standing}

-- the arguments of a call, and none of any other expression
abbrev pub arguments_of : Tree → Trees
arguments_of (Call name args span) = args
arguments_of _ = Nil

-- no argument stands in it
abbrev pub has_no_argument : Trees → Bool
has_no_argument Nil = true
has_no_argument (Next x xs) = false

-- a function that gives a sample without being given one: `vector`, which of all vectors alone is bare, a function of dates without argument, and `absent`
abbrev pub gives_by_itself : LabelEffect → Trees → Bool
gives_by_itself Bare args = true
gives_by_itself Date args = has_no_argument args
gives_by_itself Absent args = true
gives_by_itself _ args = false

abbrev pub is_own_source : Option Signature → Trees → Bool
is_own_source None args = false
is_own_source (Some s) args = gives_by_itself s.labels args

-- the expression is a call of such a function
abbrev pub is_source : Tree → Bool
is_source e = is_own_source (called_by e) (arguments_of e)

-- a matcher of the selector is on `le`
abbrev pub matches_le : Tree → Bool
matches_le (Selector name matchers sight span) = list_any (λ m. bytes_eq m.label (codes "le")) matchers
matches_le _ = false

-- such a call stands in the expression
abbrev pub has_own_source : Tree → Bool
has_own_source e = list_any is_source (standing e)

-- such a selector stands in the expression
abbrev pub has_own_le : Tree → Bool
has_own_le e = list_any matches_le (standing e)

-- such a selector stands in the rule's expression, or the rule sets `le`, be it to the empty text
abbrev pub names_le : RuleTree → Bool
names_le r = has_own_le r.expr || list_any (λ l. bytes_eq l.key (codes "le")) r.labels

module _ (rules : List RuleTree) where
  -- the expression passes a test, or a rule that it reads passes another
  abbrev pub HoldsThroughReads : (Tree → Bool) → (RuleTree → Bool) → Tree → Type 0
  HoldsThroughReads own of_rule e = (own e ≡ true) ⊎ ((r : RuleTree) × Contains rules r × Reaches rules e r × (of_rule r ≡ true))

  -- the expression can't be silent: it holds a call that gives a sample by itself
  abbrev pub CannotBeSilent : Tree → Type 0
  CannotBeSilent e = HoldsThroughReads has_own_source (λ r. has_own_source r.expr) e

  -- `le` is named beneath the expression: by a matcher, or by a recording rule
  abbrev pub NamesLe : Tree → Type 0
  NamesLe e = HoldsThroughReads has_own_le names_le e
