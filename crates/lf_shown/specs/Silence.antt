-- Which expressions can be silent: they give nothing where nothing is stored under the names that they read.
use Rattle.std.specs.Prelude.{ℕ, zero, suc, Bool, true, false, ◌&&◌, Option, Some, None}
use Rattle.lf_ast.specs.Functions.{Signature, aggregation, function_named}
use Rattle.lf_ast.specs.Tree.{Tree, Trees, Number, Str, Selector, Subquery, Paren, Unary, Binary, Call, Aggregate, Nil, Next}
use Rattle.lf_ast.specs.declared.functions.LabelEffect.{LabelEffect}
use Rattle.lf_ast.specs.declared.functions.LabelEffect.TheVariants.{Maps, Keeps, Groups, CountValues, Date, Absent, LabelReplace, LabelJoin, HistogramQuantile, Bare}
use Rattle.lf_semantics.specs.Parts.{is_scalar_part, operand_place}

-- a function of dates without an argument speaks of now
abbrev pub date_can_be_silent : Trees → Bool → Bool
date_can_be_silent Nil operand = false
date_can_be_silent (Next x xs) operand = operand

-- `vector`, `absent` and a function of dates without an argument give a sample of nothing; any other gives nothing where its operand does
abbrev pub effect_can_be_silent : LabelEffect → Trees → Bool → Bool
effect_can_be_silent Maps args operand = operand
effect_can_be_silent Keeps args operand = operand
effect_can_be_silent Groups args operand = operand
effect_can_be_silent CountValues args operand = operand
effect_can_be_silent Date args operand = date_can_be_silent args operand
effect_can_be_silent Absent args operand = false
effect_can_be_silent LabelReplace args operand = operand
effect_can_be_silent LabelJoin args operand = operand
effect_can_be_silent HistogramQuantile args operand = operand
effect_can_be_silent Bare args operand = false

abbrev pub call_can_be_silent : Option Signature → Trees → (ℕ → Bool) → Bool
call_can_be_silent None args argument = false
call_can_be_silent (Some s) args argument = effect_can_be_silent s.labels args (argument (operand_place s))

-- by whether the left and the right side are scalars
abbrev pub binary_can_be_silent : Bool → Bool → Bool → Bool → Bool
binary_can_be_silent true true left right = false
binary_can_be_silent false true left right = left
binary_can_be_silent true false left right = right
binary_can_be_silent false false left right = left && right

abbrev mutual
  pub can_be_silent : Tree → Bool
  can_be_silent (Number text span) = false
  can_be_silent (Str text span) = false
  can_be_silent (Selector name matchers sight span) = true
  can_be_silent (Subquery of sight span) = can_be_silent of
  can_be_silent (Paren of span) = can_be_silent of
  can_be_silent (Unary minus of span) = can_be_silent of
  can_be_silent (Binary op m left right span) = binary_can_be_silent (is_scalar_part left) (is_scalar_part right) (can_be_silent left) (can_be_silent right)
  can_be_silent (Call name args span) = call_can_be_silent (function_named name) args (argument_can_be_silent args)
  can_be_silent (Aggregate op grouping args span) = call_can_be_silent (Some (aggregation op)) args (argument_can_be_silent args)

  -- argument k, counted from 0
  pub argument_can_be_silent : Trees → ℕ → Bool
  argument_can_be_silent Nil k = false
  argument_can_be_silent (Next x xs) zero = can_be_silent x
  argument_can_be_silent (Next x xs) (suc k) = argument_can_be_silent xs k
