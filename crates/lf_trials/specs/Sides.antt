-- Which side of a match gives a label to the result. A label that neither gives is on no result. This is asked of arithmetic, comparisons and `and` alone: what is said here of `or`
-- and `unless` means nothing, and nothing uses it.
use Rattle.std.specs.Prelude.{Bool, true, false, not, ◌&&◌, ◌||◌}
use Rattle.lf_ast.specs.Labels.{Bytes}
use Rattle.lf_ast.specs.Types.{is_among}
use Rattle.lf_ast.specs.declared.expr.Group.{Group}
use Rattle.lf_ast.specs.declared.expr.Group.TheVariants.{One, Left, Right}
use Rattle.lf_ast.specs.declared.expr.Matching.{Matching}
use Rattle.lf_ast.specs.declared.expr.Op.{Op}
use Rattle.lf_ast.specs.declared.expr.Op.TheVariants.{And}
use Rattle.lf_semantics.specs.Grouped.{is_arithmetic, is_metric, keeps}

-- `bool` drops the metric name last
abbrev pub drops_last : Matching → Bytes → Bool
drops_last m label = m.bool_mod && is_metric label

-- the one side gives the labels of the group's list
abbrev pub one_side_gives : Matching → Bytes → Bool
one_side_gives m label = is_among m.include label && not (drops_last m label)

-- the many side gives the others, but for the metric name where the operator is arithmetic
abbrev pub many_side_gives : Op → Matching → Bytes → Bool
many_side_gives op m label = not (is_among m.include label) && not (drops_last m label || (is_arithmetic op && is_metric label))

abbrev pub left_of_match : Group → Op → Matching → Bytes → Bool
left_of_match One op m label = keeps op m label
left_of_match Left op m label = many_side_gives op m label
left_of_match Right op m label = one_side_gives m label

abbrev pub right_of_match : Group → Op → Matching → Bytes → Bool
right_of_match One op m label = false
right_of_match Left op m label = one_side_gives m label
right_of_match Right op m label = many_side_gives op m label

-- the left side gives the label. Of `and` it gives all labels, and one to one those that are kept
abbrev pub left_gives : Op → Matching → Bytes → Bool
left_gives And m label = true
left_gives op m label = left_of_match m.group op m label

abbrev pub right_gives : Op → Matching → Bytes → Bool
right_gives And m label = false
right_gives op m label = right_of_match m.group op m label

-- the result drops the label
abbrev pub drops : Op → Matching → Bytes → Bool
drops op m label = not (left_gives op m label || right_gives op m label)
