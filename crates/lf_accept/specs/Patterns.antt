-- The patterns that stand in an expression.
use Rattle.std.specs.Prelude.{cond, List, [], ◌∷◌, map, Option, Some, None}
use Rattle.std.specs.Borrow.{Bor}
use Rattle.std.specs.List.{flat_map}
use Rattle.lf_ast.specs.Arguments.{text_at, texts_of}
use Rattle.lf_ast.specs.Functions.{Signature, function_named}
use Rattle.lf_ast.specs.Labels.{Bytes}
use Rattle.lf_ast.specs.Tree.{Tree, Selector, Call, nodes}
use Rattle.lf_ast.specs.declared.expr.Matcher.{Matcher}
use Rattle.lf_ast.specs.declared.functions.LabelEffect.{LabelEffect}
use Rattle.lf_ast.specs.declared.functions.LabelEffect.TheVariants.{LabelReplace}
use Rattle.lf_semantics.specs.PatternBreaches.{takes_pattern}

-- the value of a matcher behind a `=~` or `!~`
abbrev pub pattern_of : Matcher → List Bytes
pattern_of m = cond (takes_pattern m.op) (m.value ∷ []) []

-- the fifth argument of `label_replace`
abbrev pub argument_patterns : LabelEffect → Bytes → List Bytes
argument_patterns LabelReplace argument = argument ∷ []
argument_patterns _ argument = []

abbrev pub called_patterns : Option Signature → Bytes → List Bytes
called_patterns None argument = []
called_patterns (Some s) argument = argument_patterns s.labels argument

-- those of an expression alone, without its parts
abbrev pub patterns_here : Tree → List Bytes
patterns_here (Selector name matchers sight span) = flat_map pattern_of matchers
patterns_here (Call name args span) = called_patterns (function_named name) (text_at (texts_of args) 4)
patterns_here _ = []

abbrev pub patterns_in : Tree → List Bytes
patterns_in e = flat_map patterns_here (nodes e)

-- borrowed texts
abbrev pub texts_at : List (Bor Bytes) → List Bytes
texts_at texts = map (λ t. t.now) texts
