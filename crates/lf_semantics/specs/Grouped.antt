-- Which labels come out of groupings and of vector matching, and with whose texts.
use Rattle.std.specs.Prelude.{◌≡◌, Bool, false, not, ◌&&◌, ◌||◌, cond, IsTrue, List, [], ◌∷◌, Option, Some, None}
use Rattle.std.specs.Str.{bytes_eq}
use Rattle.lf_ast.specs.Labels.{Bytes, Labels}
use Rattle.lf_ast.specs.Types.{is_among, is_comparison, is_set_operator, names_at}
use Rattle.lf_ast.specs.declared.expr.Group.{Group}
use Rattle.lf_ast.specs.declared.expr.Group.TheVariants.{One, Left, Right}
use Rattle.lf_ast.specs.declared.expr.Grouping.{Grouping}
use Rattle.lf_ast.specs.declared.expr.Grouping.TheVariants.{None as Ungrouped, By, Without}
use Rattle.lf_ast.specs.declared.expr.Matching.{Matching}
use Rattle.lf_ast.specs.declared.expr.Name.{Name}
use Rattle.lf_ast.specs.declared.expr.Op.{Op}
use Rattle.lf_ast.specs.Selectors.{metric}
use Rattle.lf_semantics.specs.Texts.{restricted, value_of, with_label}

abbrev pub is_metric : Bytes → Bool
is_metric label = bytes_eq label metric

abbrev pub without_name : Labels → Labels
without_name s = restricted (λ label. not (is_metric label)) s

-- the operator is arithmetic, `atan2` included
abbrev pub is_arithmetic : Op → Bool
is_arithmetic op = not (is_comparison op || is_set_operator op)

-- a comparison without `bool` lets samples through as they are
abbrev pub is_filter : Op → Matching → Bool
is_filter op m = is_comparison op && not m.bool_mod

-- groupings

-- the labels of a group: those of `by`, all but the metric name and those of `without`, or none
abbrev pub is_grouped_by : Grouping → Bytes → Bool
is_grouped_by Ungrouped label = false
is_grouped_by (By names) label = is_among names label
is_grouped_by (Without names) label = not (is_among names label || is_metric label)

abbrev pub group_of : Grouping → Labels → Labels
group_of grouping s = restricted (is_grouped_by grouping) s

-- the label of `count_values` may be lacked where `without` takes it out of the group
abbrev pub may_be_lacked : Grouping → Bytes → Bool
may_be_lacked (Without names) label = is_among names label || is_metric label
may_be_lacked _ label = false

-- vector matching

abbrev pub signs_by : Option (List Name) → Option (List Name) → Bytes → Bool
signs_by (Some on) ignoring label = is_among on label
signs_by None ignoring label = not (is_among (names_at ignoring) label || is_metric label)

-- the labels of the signature: those of `on`, or else all but the metric name and those of `ignoring`
abbrev pub signs : Matching → Bytes → Bool
signs m label = signs_by m.on m.ignoring label

abbrev pub SameSignature : Matching → Labels → Labels → Type 0
SameSignature m s t = (label : Bytes) → IsTrue (signs m label) → value_of s label ≡ value_of t label

abbrev pub keeps_by : Option (List Name) → Option (List Name) → Bytes → Bool
keeps_by (Some on) ignoring label = is_among on label
keeps_by None ignoring label = not (is_among (names_at ignoring) label)

-- one to one: `on` keeps its labels alone, and `ignoring` drops its labels. Arithmetic and `bool` drop the metric name
abbrev pub keeps : Op → Matching → Bytes → Bool
keeps op m label = keeps_by m.on m.ignoring label && not ((is_arithmetic op || m.bool_mod) && is_metric label)

abbrev pub without_name_if : Bool → Labels → Labels
without_name_if drops s = cond drops (without_name s) s

-- each label of the list as on the one side, which may have none
abbrev pub taken_from : Labels → List Name → Labels → Labels
taken_from one [] s = s
taken_from one (n ∷ names) s = with_label n.text (value_of one n.text) (taken_from one names s)

-- many to one: the labels of the many side, of which arithmetic drops the metric name; then those of the group's list from the one side; last, `bool` drops the
-- metric name
abbrev pub many_to_one : Op → Matching → Labels → Labels → Labels
many_to_one op m many one = without_name_if m.bool_mod (taken_from one m.include (without_name_if (is_arithmetic op) many))

abbrev pub paired : Group → Op → Matching → Labels → Labels → Labels
paired One op m s t = restricted (keeps op m) s
paired Left op m s t = many_to_one op m s t
paired Right op m s t = many_to_one op m t s

-- the labels of the result of a pair
abbrev pub out : Op → Matching → Labels → Labels → Labels
out op m s t = paired m.group op m s t
