-- What is left to be built, as the code goes down an expression by a list of tasks: how contracts see the code. It defines nothing.
use Rattle.std.specs.Prelude.{ℕ, suc, Bool, true, false, not, cond, List, [], ◌∷◌, Option, Some, None}
use Rattle.lf_ast.specs.Functions.{Signature, aggregation, function_named}
use Rattle.lf_ast.specs.Labels.{Bytes}
use Rattle.lf_ast.specs.Rules.{RuleTree}
use Rattle.lf_ast.specs.Tree.{Tree, Trees, Number, Str, Selector, Subquery, Paren, Unary, Binary, Call, Aggregate}
use Rattle.lf_ast.specs.declared.expr.Grouping.{Grouping}
use Rattle.lf_ast.specs.declared.expr.Grouping.TheVariants.{None as Ungrouped}
use Rattle.lf_ast.specs.declared.expr.Matching.{Matching}
use Rattle.lf_ast.specs.declared.expr.Op.{Op}
use Rattle.lf_ast.specs.declared.expr.Op.TheVariants.{Or, Unless}
use Rattle.lf_ast.specs.declared.functions.LabelEffect.{LabelEffect}
use Rattle.lf_semantics.specs.ClassRows.{Sets}
use Rattle.lf_semantics.specs.Grouped.{is_filter}
use Rattle.lf_semantics.specs.Listing.{Listing}
use Rattle.lf_semantics.specs.Parts.{argument_at, is_scalar_part, operand_place}
use Rattle.lf_semantics.specs.RowTable.{Environment, row_of}
use Rattle.lf_trials.specs.Building.{Building, and_then, nothing}
use Rattle.lf_trials.specs.Built.{build, build_by_rule, builder}
use Rattle.lf_trials.specs.Given.{Given, holds_texts}
use Rattle.lf_trials.specs.Matched.{has_signature, side}
use Rattle.lf_trials.specs.Operands.{effect_texts, losing_name}
use Rattle.lf_trials.specs.Sides.{left_gives, right_gives}

-- an expression that is to be built, with the texts that it gets
pub record Wanted : Type 0 where
  pub expr : Tree
  pub texts : Given

abbrev pub want : Tree → Given → Wanted
want e D = record { expr = e; texts = D }

-- nothing more, or one expression
abbrev pub none_wanted : Option (List Wanted)
none_wanted = Some []

abbrev pub one_wanted : Given → Option Tree → Option (List Wanted)
one_wanted D None = None
one_wanted D (Some e) = Some (want e D ∷ [])

abbrev pub nameless_if : Bool → Given → Given
nameless_if drops D = cond drops (losing_name D) D

-- what a function or an aggregation wants of its operand
abbrev pub operand_wanted : Option Tree → Option Given → Option (List Wanted)
operand_wanted operand None = none_wanted
operand_wanted operand (Some D) = one_wanted D operand

abbrev pub effect_wanted : LabelEffect → Grouping → Trees → Option Tree → Given → Option (List Wanted)
effect_wanted effect grouping args operand D = operand_wanted operand (effect_texts effect grouping args D)

abbrev pub call_wanted : Option Signature → Grouping → Trees → Given → Option (List Wanted)
call_wanted None grouping args D = None
call_wanted (Some s) grouping args D = effect_wanted s.labels grouping args (argument_at args (operand_place s)) D

module _ (u : Listing) (env : Environment) where
  -- what an operator wants of its sides, which aren't scalars
  abbrev pub match_wanted : Op → Matching → Tree → Tree → Given → Option (List Wanted)
  match_wanted op m left right D =
      let l : Sets = row_of u env left in
      let r : Sets = row_of u env right in
      cond (has_signature u op m l r D) (Some (want left (side u (left_gives op m) op m l r D) ∷ want right (side u (right_gives op m) op m l r D) ∷ [])) None

  abbrev pub operator_wanted : Op → Matching → Tree → Tree → Given → Option (List Wanted)
  operator_wanted Or m left right D = Some (want (cond (holds_texts u (row_of u env left) D) left right) D ∷ [])
  operator_wanted Unless m left right D = Some (want left D ∷ [])
  operator_wanted op m left right D = match_wanted op m left right D

  abbrev pub binary_wanted : Op → Matching → Bool → Bool → Tree → Tree → Given → Option (List Wanted)
  binary_wanted op m true true left right D = none_wanted
  binary_wanted op m false true left right D = one_wanted (nameless_if (not (is_filter op m)) D) (Some left)
  binary_wanted op m true false left right D = one_wanted (nameless_if (not (is_filter op m)) D) (Some right)
  binary_wanted op m false false left right D = operator_wanted op m left right D

  -- what an expression, which is no selector, wants of its parts, if there is a world
  abbrev pub parts_wanted : Tree → Given → Option (List Wanted)
  parts_wanted (Number text span) D = none_wanted
  parts_wanted (Str text span) D = None
  parts_wanted (Selector name matchers sight span) D = None
  parts_wanted (Subquery of sight span) D = one_wanted D (Some of)
  parts_wanted (Paren of span) D = one_wanted D (Some of)
  parts_wanted (Unary minus of span) D = one_wanted (nameless_if minus D) (Some of)
  parts_wanted (Binary op m left right span) D = binary_wanted op m (is_scalar_part left) (is_scalar_part right) left right D
  parts_wanted (Call name args span) D = call_wanted (function_named name) Ungrouped args D
  parts_wanted (Aggregate op grouping args span) D = call_wanted (Some (aggregation op)) grouping args D

-- an expression is no selector
abbrev pub IsNoSelector : Tree → Type 0
IsNoSelector (Selector name matchers sight span) = ⊥
IsNoSelector _ = Unit {0}

-- an expression that is to be built; or that the rule marked last was built: its mark is taken off, and its step is added
pub data Task : Type 0 where
  Visit : Wanted → Task
  Finish : Task

abbrev pub step_only : ℕ → Option Building
step_only k = Some (record { series = []; steps = k ∷ []; selectors = 0 })

abbrev pub selector_only : Option Building
selector_only = Some (record { series = []; steps = []; selectors = 1 })

module _ (u : Listing) (env : Environment) (rules : List RuleTree) (holds_fork : Tree → Bool) where
  -- what is built for expressions, one after the other
  abbrev pub built_for : (Bytes → Given → Option Building) → List Wanted → Option Building
  built_for build_rule [] = nothing
  built_for build_rule (w ∷ more) = and_then (build u env rules holds_fork w.expr (builder u env rules holds_fork build_rule w.expr) w.texts) (built_for build_rule more)

  -- what tasks build, where so many rules aren't marked yet, and these are
  abbrev pub outcome : ℕ → List ℕ → List Task → Option Building
  outcome unmarked marked [] = nothing
  outcome unmarked marked (Visit w ∷ tasks) =
      and_then (build u env rules holds_fork w.expr (builder u env rules holds_fork (build_by_rule u env rules holds_fork unmarked marked) w.expr) w.texts) (outcome unmarked marked tasks)
  outcome unmarked [] (Finish ∷ tasks) = None
  outcome unmarked (k ∷ marked) (Finish ∷ tasks) = and_then (step_only k) (outcome (suc unmarked) marked tasks)
