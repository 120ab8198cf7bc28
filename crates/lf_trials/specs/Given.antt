-- What a world is built to show: texts of labels. The empty text says that the label is absent, and of some labels nothing may be said.
use Rattle.std.specs.Prelude.{Bool, true, ◌&&◌, cond, List, [], ◌∷◌, Option, Some, None, is_some}
use Rattle.std.specs.List.{list_all}
use Rattle.std.specs.Option.{option_map_or, option_or}
use Rattle.std.specs.Str.{bytes_eq}
use Rattle.lf_ast.specs.Labels.{Bytes, Labels}
use Rattle.lf_semantics.specs.ClassRows.{Sets, holds, is_live}
use Rattle.lf_semantics.specs.Evaluation.{bare}
use Rattle.lf_semantics.specs.Listing.{Listing, class_of, label_of}
use Rattle.lf_semantics.specs.Texts.{with_label}
use Rattle.lf_trials.specs.Candidates.{candidates_in, first, labels_in}

-- the text of each label of which something is said, by the label's name
abbrev pub Given : Type 0
Given = Bytes → Option Bytes

abbrev pub nothing_given : Given
nothing_given name = None

-- with this text of the label
abbrev pub giving : Bytes → Bytes → Given → Given
giving label text D name = cond (bytes_eq name label) (Some text) (D name)

-- without the labels that are lost: nothing is said of them
abbrev pub losing : (Bytes → Bool) → Given → Given
losing lost D name = cond (lost name) None (D name)

-- The label set of the texts. An empty text is no label, and neither is one of which nothing is said.

abbrev pub with_text : Bytes → Bytes → Labels → Labels
with_text name [] s = s
with_text name text s = with_label name text s

abbrev pub label_set : List Bytes → Given → Labels
label_set [] D = bare
label_set (name ∷ names) D = option_map_or (λ text. with_text name text (label_set names D)) (D name) (label_set names D)

module _ (u : Listing) where
  -- a row holds the texts if it isn't empty and the class of each is in its label's set
  abbrev pub holds_text : Sets → Bytes → Bytes → Bool
  holds_text row name text = holds row (label_of u name) (class_of u (label_of u name) text)

  abbrev pub holds_texts : Sets → Given → Bool
  holds_texts row D = is_live row && list_all (λ name. option_map_or (holds_text row name) (D name) true) (labels_in u)

  -- completed by a row: where nothing is said of a label, by its first candidate in the row
  abbrev pub completed_by : Sets → Given → Given
  completed_by row D name = option_or (D name) (first (candidates_in u row name))

  -- none where the row is empty, and where a label is left without a text
  abbrev pub completed : Sets → Given → Option Given
  completed row D = cond (is_live row && list_all (λ name. is_some (completed_by row D name)) (labels_in u)) (Some (completed_by row D)) None
