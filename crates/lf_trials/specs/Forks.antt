-- Forks: where samples may come from one place or from another. A fork is an `or`, or a selector of a name that several rules record. Nothing within a scalar is looked at.
use Rattle.std.specs.Prelude.{◌≡◌, ◌⊎◌, ◌↔◌, Bool, true, false, not, ◌&&◌, ◌||◌, List, Option, Some, None}
use Rattle.std.specs.List.{Contains}
use Rattle.lf_ast.specs.Labels.{Bytes}
use Rattle.lf_ast.specs.Rules.{RuleTree}
use Rattle.lf_ast.specs.Selectors.{selected_name}
use Rattle.lf_ast.specs.Tree.{Tree, Trees, Number, Str, Selector, Subquery, Paren, Unary, Binary, Call, Aggregate, Nil, Next}
use Rattle.lf_ast.specs.declared.expr.Op.{Op}
use Rattle.lf_ast.specs.declared.expr.Op.TheVariants.{Or}
use Rattle.lf_semantics.specs.Parts.{is_scalar_part}
use Rattle.lf_deps.specs.Reading.{Reaches}
use Rattle.lf_trials.specs.Reached.{has_several_rules}

abbrev pub is_or : Op → Bool
is_or Or = true
is_or _ = false

-- a selector that says no name is no fork
abbrev pub is_forked_selector : List RuleTree → Option Bytes → Bool
is_forked_selector rules (Some name) = has_several_rules rules name
is_forked_selector rules None = false

-- what is found in an expression, but nothing where it is a scalar
abbrev pub unless_scalar : Tree → Bool → Bool
unless_scalar e found = not (is_scalar_part e) && found

-- where a test tells of a selector, by the name that it says, whether it passes
module _ (test : Option Bytes → Bool) where
  abbrev mutual
    -- an `or` stands in a part of the expression or a selector that passes, or the expression is one
    pub passes_in : Tree → Bool
    passes_in (Number text span) = false
    passes_in (Str text span) = false
    passes_in (Selector name matchers sight span) = test (selected_name name matchers)
    passes_in (Subquery of sight span) = unless_scalar of (passes_in of)
    passes_in (Paren of span) = unless_scalar of (passes_in of)
    passes_in (Unary minus of span) = unless_scalar of (passes_in of)
    passes_in (Binary op m left right span) = is_or op || (unless_scalar left (passes_in left) || unless_scalar right (passes_in right))
    passes_in (Call name args span) = passes_in_arguments args
    passes_in (Aggregate op grouping args span) = passes_in_arguments args

    pub passes_in_arguments : Trees → Bool
    passes_in_arguments Nil = false
    passes_in_arguments (Next x xs) = unless_scalar x (passes_in x) || passes_in_arguments xs

  -- an `or` or a selector that passes stands in the expression
  abbrev pub has_passing : Tree → Bool
  has_passing e = unless_scalar e (passes_in e)

module _ (rules : List RuleTree) where
  -- a fork stands in a part of the expression, or the expression is one
  abbrev pub fork_in : Tree → Bool
  fork_in e = passes_in (is_forked_selector rules) e

  abbrev pub fork_in_arguments : Trees → Bool
  fork_in_arguments args = passes_in_arguments (is_forked_selector rules) args

  -- a fork stands in the expression
  abbrev pub has_own_fork : Tree → Bool
  has_own_fork e = has_passing (is_forked_selector rules) e

  -- an expression holds a fork: in itself, or in a rule that it reads, directly or through others
  abbrev pub HoldsFork : Tree → Type 0
  HoldsFork e = (has_own_fork e ≡ true) ⊎ ((r : RuleTree) × Contains rules r × Reaches rules e r × (has_own_fork r.expr ≡ true))

  -- a test that tells which expressions hold a fork
  abbrev pub TellsForks : (Tree → Bool) → Type 0
  TellsForks holds_fork = (e : Tree) → (holds_fork e ≡ true) ↔ HoldsFork e
