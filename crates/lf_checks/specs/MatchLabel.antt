-- match/label: a grouping or a match that names a label which no sample of its operand has.
use Rattle.std.specs.Prelude.{◌≡◌, ◌⊎◌, true, ◌++◌, Option, Some, None, codes}
use Rattle.std.specs.List.{Contains}
use Rattle.lf_ast.specs.Functions.{aggregation}
use Rattle.lf_ast.specs.Labels.{Bytes}
use Rattle.lf_ast.specs.Rules.{RuleTree}
use Rattle.lf_ast.specs.Tree.{Aggregate, Binary, Tree, Trees, nodes}
use Rattle.lf_ast.specs.Types.{is_vector, names_at}
use Rattle.lf_ast.specs.declared.expr.Agg.{Agg}
use Rattle.lf_ast.specs.declared.expr.Group.{Group}
use Rattle.lf_ast.specs.declared.expr.Group.TheVariants.{One, Left, Right}
use Rattle.lf_ast.specs.declared.expr.Grouping.TheVariants.{By}
use Rattle.lf_ast.specs.declared.expr.Matching.{Matching}
use Rattle.lf_ast.specs.declared.expr.Name.{Name}
use Rattle.lf_semantics.specs.Listing.{Listing}
use Rattle.lf_semantics.specs.Parts.{argument_at, operand_place, type_by_form}
use Rattle.lf_semantics.specs.RowTable.{Environment, row_of}
use Rattle.lf_checks.specs.Finding.{Finding, MatchLabel, Note, Severity, finding}
use Rattle.lf_checks.specs.Judged.{IsImpossible}

-- how grave it is
abbrev pub severity : Severity
severity = Note

-- what it says of a label that is never there
abbrev pub says_never : Bytes → Bytes
says_never label = codes "label " ++ (label ++ codes " is never on the operand")

-- the argument whose samples an aggregation groups
abbrev pub operand_of : Agg → Trees → Option Tree
operand_of op args = argument_at args (operand_place (aggregation op))

-- the one side of a match with a group modifier
abbrev pub one_side : Group → Tree → Tree → Option Tree
one_side One left right = None
one_side Left left right = Some right
one_side Right left right = Some left

-- a match seeks the labels of `on` on either side, and those of a group list on the one side
abbrev pub MatchSeeks : Matching → Tree → Tree → Name → Tree → Type 0
MatchSeeks m left right label operand =
    (Contains (names_at m.on) label × ((operand ≡ left) ⊎ (operand ≡ right)))
    ⊎ (Contains m.include label × (one_side m.group left right ≡ Some operand))

-- an aggregation seeks the labels of `by` on its operand, and an operator between two vectors those of its match
abbrev pub Seeks : Tree → Name → Tree → Type 0
Seeks (Aggregate op (By labels) args span) label operand = Contains labels label × (operand_of op args ≡ Some operand)
Seeks (Binary op m left right span) label operand = (is_vector (type_by_form left) ≡ true) × (is_vector (type_by_form right) ≡ true) × MatchSeeks m left right label operand
Seeks _ label operand = ⊥

-- a label that is sought on an operand, in the expression or in a part, and is impossible by the row of the operand, which isn't empty; at the label
abbrev pub IsFound : Listing → Environment → RuleTree → Finding → Type 0
IsFound u env r f =
    (e : Tree) × (label : Name) × (operand : Tree) × Contains (nodes r.expr) e × Seeks e label operand × IsImpossible u (row_of u env operand) label.text
    × (f ≡ finding MatchLabel label.span (says_never label.text))
