-- What match/label tells of labels that are sought on an operand, by its row, of a match, and of one part of an expression.
use Rattle.std.specs.Prelude.{◌≡◌, ◌⊎◌, ◌==◌, ◌||◌, Bool, true, false, not, List, [], length}
use Rattle.lf_laws.specs.Gaining.{OfSome}
use Rattle.lf_ast.specs.Tree.{Aggregate, Binary, Tree}
use Rattle.lf_ast.specs.Types.{names_at}
use Rattle.lf_ast.specs.declared.expr.Group.{Group}
use Rattle.lf_ast.specs.declared.expr.Group.TheVariants.{Left, Right}
use Rattle.lf_ast.specs.declared.expr.Grouping.{Grouping}
use Rattle.lf_ast.specs.declared.expr.Grouping.TheVariants.{None as Ungrouped, By, Without}
use Rattle.lf_ast.specs.declared.expr.Matching.{Matching}
use Rattle.lf_ast.specs.declared.expr.Name.{Name}
use Rattle.lf_semantics.specs.ClassRows.{Sets}
use Rattle.lf_semantics.specs.Listing.{Listing}
use Rattle.lf_semantics.specs.RowTable.{Environment, row_of}
use Rattle.lf_checks.specs.Finding.{Finding, MatchLabel, finding}
use Rattle.lf_checks.specs.Judged.{IsImpossible}
use Rattle.lf_checks.specs.MatchLabel.{Seeks, says_never}

-- the labels of `by`
abbrev pub labels_by : Grouping → List Name
labels_by Ungrouped = []
labels_by (By labels) = labels
labels_by (Without labels) = []

-- whether labels are named on an operand: in `by`, or in `on` or the list of a group modifier
abbrev pub seeks_labels : Tree → Bool
seeks_labels (Aggregate op grouping args span) = not (length (labels_by grouping) == 0)
seeks_labels (Binary op m left right span) = not (length (names_at m.on) == 0) || not (length m.include == 0)
seeks_labels _ = false

-- the list of a group modifier, where the left side is the one side, and where the right one is
abbrev pub for_left : Group → List Name → List Name
for_left Right names = names
for_left _ names = []

abbrev pub for_right : Group → List Name → List Name
for_right Left names = names
for_right _ names = []

module _ (u : Listing) where
  -- the label is impossible by the row
  abbrev pub IsNever : Sets → Name → Finding → Type 0
  IsNever row label f = IsImpossible u row label.text × (f ≡ finding MatchLabel label.span (says_never label.text))

  -- a label of one of these lists is never on the samples of the row
  abbrev pub IsOfRow : Sets → List Name → List Name → Finding → Type 0
  IsOfRow row labels others f = OfSome (IsNever row) labels f ⊎ OfSome (IsNever row) others f

  -- of the row of either side the labels of `on`, and of that of the one side those of a group list
  abbrev pub IsOfSides : Matching → Sets → Sets → Finding → Type 0
  IsOfSides m left right f = IsOfRow left (names_at m.on) (for_left m.group m.include) f ⊎ IsOfRow right (names_at m.on) (for_right m.group m.include) f

  -- of sides that are vectors
  abbrev pub IsOfMatch : Bool → Matching → Sets → Sets → Finding → Type 0
  IsOfMatch vectors m left right f = (vectors ≡ true) × IsOfSides m left right f

  -- a label that the part seeks is never on its operand
  abbrev pub IsOfPart : Environment → Tree → Finding → Type 0
  IsOfPart env x f = (label : Name) × (operand : Tree) × Seeks x label operand × IsNever (row_of u env operand) label f
