-- The text that a label has to have where it is followed, as the code looks for it.
use Rattle.std.specs.Prelude.{ℕ, zero, suc, cond, List, [], ◌∷◌, Option, Some, None}
use Rattle.std.specs.Option.{option_or}
use Rattle.std.specs.Str.{bytes_eq}
use Rattle.lf_ast.specs.Functions.{Signature, aggregation, function_named}
use Rattle.lf_ast.specs.Labels.{Bytes}
use Rattle.lf_ast.specs.Rules.{RuleTree}
use Rattle.lf_ast.specs.Selectors.{selected_name}
use Rattle.lf_ast.specs.Tree.{Tree, Trees, Number, Str, Selector, Subquery, Paren, Unary, Binary, Call, Aggregate, Nil, Next}
use Rattle.lf_ast.specs.declared.expr.Matcher.{Matcher}
use Rattle.lf_ast.specs.declared.expr.Op.{Op}
use Rattle.lf_ast.specs.declared.expr.Op.TheVariants.{Or, Unless}
use Rattle.lf_ast.specs.declared.functions.LabelEffect.{LabelEffect}
use Rattle.lf_ast.specs.declared.functions.LabelEffect.TheVariants.{Absent, Bare}
use Rattle.lf_semantics.specs.Parts.{operand_place}
use Rattle.lf_trials.specs.Reached.{is_recorded}
use Rattle.lf_uniform.specs.views.Following.{first_equal}

-- a text, if it isn't empty
abbrev pub if_any : Bytes → Option Bytes
if_any text = cond (bytes_eq text []) None (Some text)

-- that of the only part, if there is one
abbrev pub text_of_parts : List (Option Bytes) → Option Bytes
text_of_parts [] = None
text_of_parts (text ∷ texts) = text

abbrev pub required_by_operator : Op → Option Bytes → Option Bytes → Option Bytes
required_by_operator Or left right = None
required_by_operator Unless left right = left
required_by_operator op left right = option_or left right

-- where the operand isn't followed, nothing is required of it
abbrev pub required_by_effect : LabelEffect → Option Bytes → Option Bytes
required_by_effect Absent operand = None
required_by_effect Bare operand = None
required_by_effect effect operand = operand

abbrev pub required_by_call : Option Signature → (ℕ → Option Bytes) → Option Bytes
required_by_call None argument = None
required_by_call (Some s) argument = required_by_effect s.labels (argument (operand_place s))

module _ (rules : List RuleTree) (label : Bytes) where
  -- what a selector of a name asks for by `=`, where no rule records the name
  abbrev pub asked_of : Option Bytes → List Matcher → Option Bytes
  asked_of None matchers = if_any (first_equal label matchers)
  asked_of (Some name) matchers = cond (is_recorded rules name) None (if_any (first_equal label matchers))

  abbrev mutual
    pub required_text : Tree → Option Bytes
    required_text (Number text span) = None
    required_text (Str text span) = None
    required_text (Selector name matchers sight span) = asked_of (selected_name name matchers) matchers
    required_text (Subquery of sight span) = required_text of
    required_text (Paren of span) = required_text of
    required_text (Unary minus of span) = required_text of
    required_text (Binary op m left right span) = required_by_operator op (required_text left) (required_text right)
    required_text (Call name args span) = required_by_call (function_named name) (required_argument args)
    required_text (Aggregate op grouping args span) = required_by_call (Some (aggregation op)) (required_argument args)

    -- argument k, counted from 0
    pub required_argument : Trees → ℕ → Option Bytes
    required_argument Nil k = None
    required_argument (Next x xs) zero = required_text x
    required_argument (Next x xs) (suc k) = required_argument xs k
