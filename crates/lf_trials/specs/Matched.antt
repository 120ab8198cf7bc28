-- What the sides of an operator are built from, by their rows `left` and `right`.
use Rattle.std.specs.Prelude.{Bool, true, false, not, ◌||◌, cond, None, is_some}
use Rattle.std.specs.List.{list_all}
use Rattle.std.specs.Option.{option_or}
use Rattle.lf_ast.specs.Labels.{Bytes}
use Rattle.lf_ast.specs.declared.expr.Matching.{Matching}
use Rattle.lf_ast.specs.declared.expr.Op.{Op}
use Rattle.lf_ast.specs.declared.expr.Op.TheVariants.{Or, Unless}
use Rattle.lf_semantics.specs.ClassRows.{Sets}
use Rattle.lf_semantics.specs.Grouped.{is_filter, signs}
use Rattle.lf_semantics.specs.Listing.{Listing}
use Rattle.lf_trials.specs.Building.{Builder, and_then, nothing}
use Rattle.lf_trials.specs.Candidates.{candidates_in_both, first, labels_in}
use Rattle.lf_trials.specs.Given.{Given, holds_texts}
use Rattle.lf_trials.specs.Operands.{build_nameless_if}
use Rattle.lf_trials.specs.Sides.{drops, left_gives, right_gives}

module _ (u : Listing) where
  -- the text of a label of the signature: D's, or, where the result drops the label or D has none, the first candidate in both sides' rows
  abbrev pub signature_text : Op → Matching → Sets → Sets → Given → Given
  signature_text op m left right D name = option_or (cond (drops op m name) None (D name)) (first (candidates_in_both u left right name))

  abbrev pub has_signature : Op → Matching → Sets → Sets → Given → Bool
  has_signature op m left right D = list_all (λ name. not (signs m name) || is_some (signature_text op m left right D name)) (labels_in u)

  -- a side gets the texts of the signature, and D's texts of the labels that it gives to the result
  abbrev pub side : (Bytes → Bool) → Op → Matching → Sets → Sets → Given → Given
  side gives op m left right D name = cond (signs m name) (signature_text op m left right D name) (cond (gives name) (D name) None)

  abbrev pub build_match : Op → Matching → Sets → Sets → Builder → Builder → Builder
  build_match op m left right build_left build_right D =
      cond (has_signature op m left right D) (and_then (build_left (side (left_gives op m) op m left right D)) (build_right (side (right_gives op m) op m left right D))) None

  abbrev pub build_operator : Op → Matching → Sets → Sets → Builder → Builder → Builder
  build_operator Or m left right build_left build_right D = cond (holds_texts u left D) (build_left D) (build_right D)
  build_operator Unless m left right build_left build_right D = build_left D
  build_operator op m left right build_left build_right D = build_match op m left right build_left build_right D

  -- by whether the left and the right side are scalars, for which nothing is added
  abbrev pub build_binary : Op → Matching → Bool → Bool → Sets → Sets → Builder → Builder → Builder
  build_binary op m true true left right build_left build_right D = nothing
  build_binary op m false true left right build_left build_right D = build_nameless_if (not (is_filter op m)) build_left D
  build_binary op m true false left right build_left build_right D = build_nameless_if (not (is_filter op m)) build_right D
  build_binary op m false false left right build_left build_right D = build_operator op m left right build_left build_right D
