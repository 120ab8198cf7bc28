-- The labels that aggregations, operators and rules treat alike, marked: how contracts see the code. It defines nothing.
use Rattle.std.specs.Prelude.{Bool, not, ◌||◌, List, [], map, Option, Some, None}
use Rattle.std.specs.Str.{bytes_eq}
use Rattle.lf_ast.specs.Arguments.{text_at, texts_of}
use Rattle.lf_ast.specs.Functions.{Signature, called_by}
use Rattle.lf_ast.specs.Labels.{Bytes}
use Rattle.lf_ast.specs.Rules.{RuleTree}
use Rattle.lf_ast.specs.Tree.{Tree, Trees, Binary, Call, Aggregate, Nil}
use Rattle.lf_ast.specs.declared.expr.Grouping.{Grouping}
use Rattle.lf_ast.specs.declared.expr.Grouping.TheVariants.{None as Ungrouped}
use Rattle.lf_ast.specs.declared.expr.Matching.{Matching}
use Rattle.lf_ast.specs.declared.expr.Op.{Op}
use Rattle.lf_ast.specs.declared.functions.LabelEffect.{LabelEffect}
use Rattle.lf_ast.specs.declared.functions.LabelEffect.TheVariants.{Maps, Keeps, Groups, CountValues, Date, Absent, LabelReplace, LabelJoin, HistogramQuantile, Bare}
use Rattle.lf_semantics.specs.Grouped.{is_grouped_by, is_metric, signs}
use Rattle.lf_trials.specs.Built.{sets_label}
use Rattle.lf_trials.specs.Sides.{left_gives, right_gives}
use Rattle.lf_built.specs.declared.marking.NodeMarks.{NodeMarks}
use Rattle.lf_built.specs.declared.marking.SideMark.{SideMark}

-- the group by which an expression goes, and its arguments

abbrev pub grouping_of : Tree → Grouping
grouping_of (Aggregate op grouping args span) = grouping
grouping_of _ = Ungrouped

abbrev pub arguments_of : Tree → Trees
arguments_of (Call name args span) = args
arguments_of (Aggregate op grouping args span) = args
arguments_of _ = Nil

-- the operator and its matching
abbrev pub operator_of : Tree → Option (Op × Matching)
operator_of (Binary op m left right span) = Some (op, m)
operator_of _ = None

-- for each of these labels whether the operand doesn't get it, where it goes by a group, and else nothing

abbrev pub effect_lost : List Bytes → LabelEffect → Grouping → Trees → List Bool
effect_lost names Groups grouping args = map (λ name. not (is_grouped_by grouping name)) names
effect_lost names CountValues grouping args = map (λ name. bytes_eq name (text_at (texts_of args) 0) || not (is_grouped_by grouping name)) names
effect_lost names Maps grouping args = []
effect_lost names Keeps grouping args = []
effect_lost names Date grouping args = []
effect_lost names Absent grouping args = []
effect_lost names LabelReplace grouping args = []
effect_lost names LabelJoin grouping args = []
effect_lost names HistogramQuantile grouping args = []
effect_lost names Bare grouping args = []

abbrev pub call_lost : List Bytes → Option Signature → Grouping → Trees → List Bool
call_lost names None grouping args = []
call_lost names (Some s) grouping args = effect_lost names s.labels grouping args

abbrev pub lost_at : List Bytes → Tree → List Bool
lost_at names e = call_lost names (called_by e) (grouping_of e) (arguments_of e)

-- what an operator makes of a label: whether it is of the signature, and which sides give it to the result

abbrev pub side_mark : Op → Matching → Bytes → SideMark
side_mark op m name = record { signed = signs m name; left = left_gives op m name; right = right_gives op m name }

abbrev pub operator_marks : List Bytes → Option (Op × Matching) → List SideMark
operator_marks names None = []
operator_marks names (Some o) = map (side_mark o.0 o.1) names

abbrev pub sides_at : List Bytes → Tree → List SideMark
sides_at names e = operator_marks names (operator_of e)

-- all that is marked for an expression
abbrev pub marks_at : List Bytes → Tree → NodeMarks
marks_at names e = record { lost = lost_at names e; sides = sides_at names e }

-- for each of these labels whether a rule sets it, as it does the metric name
abbrev pub set_by : List Bytes → RuleTree → List Bool
set_by names r = map (λ name. is_metric name || sets_label r name) names
