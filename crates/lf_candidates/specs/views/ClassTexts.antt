-- Texts of labels as the code has them: a class, or nothing, for each label of the universe. The text of a class is the candidate that stands for it.
use Rattle.std.specs.Prelude.{◌≡◌, ◌<◌, ◌≤◌, ◌+◌, ℕ, Bool, true, List, [], ◌∷◌, codes, Option, Some, None, length, option_map, slice_index_or}
use Rattle.std.specs.List.{position_or_len}
use Rattle.lf_ast.specs.Labels.{Bytes}
use Rattle.lf_ast.specs.declared.expr.Matcher.{Matcher}
use Rattle.lf_semantics.specs.ClassRows.{Sets, holds}
use Rattle.lf_semantics.specs.Environments.{IsKnown}
use Rattle.lf_semantics.specs.Listing.{Listing, class_of, named_at, other_class}
use Rattle.lf_semantics.specs.RowTable.{text_of}
use Rattle.lf_trials.specs.Candidates.{candidates, labels_in}
use Rattle.lf_trials.specs.Given.{Given}
use Rattle.lf_trials.specs.Names.{passes_as_name}

-- the name of the label of a number
abbrev pub name_at : Listing → ℕ → Bytes
name_at u label = slice_index_or (labels_in u) label []

-- the text that stands for a class of a label
abbrev pub text_at : Listing → ℕ → ℕ → Bytes
text_at u label class = slice_index_or (candidates u (name_at u label)) class []

-- a class of the label, or nothing
abbrev pub IsClass : Listing → ℕ → Option ℕ → Type 0
IsClass u label None = Unit {0}
IsClass u label (Some class) = class < length (named_at u label) + 2

-- the first class that a row has of a label, or how many places it has for classes of the label, where it has none of them
abbrev pub first_held : Sets → ℕ → ℕ
first_held row label = position_or_len (λ (on : Bool). on) (slice_index_or row label [])

-- the class stands for the text that is given of a label, or nothing is given of it
abbrev pub StandsAt : Listing → ℕ → Option ℕ → Given → Type 0
StandsAt u label class D = IsClass u label class × (D (name_at u label) ≡ option_map (text_at u label) class)

abbrev pub class_at : List (Option ℕ) → ℕ → Option ℕ
class_at classes label = slice_index_or classes label None

-- the class, or nothing, of each label stands for the text that is given of the label
pub record Stands (u : Listing) (classes : List (Option ℕ)) (D : Given) : Type 0 where
  pub count : length classes ≡ length u.named
  pub each : (label : ℕ) → label < length u.named → StandsAt u label (class_at classes label) D

-- those of the labels before one stand for other texts, and the others are what they were
pub record StandsBefore (u : Listing) (before : List (Option ℕ)) (next : ℕ) (classes : List (Option ℕ)) (D : Given) : Type 0 where
  pub count : length classes ≡ length before
  pub done : (label : ℕ) → label < next → StandsAt u label (class_at classes label) D
  pub left : (label : ℕ) → next ≤ label → class_at classes label ≡ class_at before label

-- the same where there may be none
abbrev pub StandsFor : Listing → Option (List (Option ℕ)) → Option Given → Type 0
StandsFor u (Some classes) (Some D) = Stands u classes D
StandsFor u None None = Unit {0}
StandsFor u _ _ = ⊥

-- the row has each class of `__name__` but 'any other text' whose text passes matchers on it
abbrev pub HasPassing : Listing → List Matcher → Sets → Type 0
HasPassing u matchers row = (class : ℕ) → class < other_class u 0 → passes_as_name matchers (text_of u 0 class) ≡ true → holds row 0 class ≡ true

-- the universe has the label `le` and its text `+Inf`
abbrev pub KnowsBuckets : Listing → Type 0
KnowsBuckets u = IsKnown u (record { label = codes "le"; texts = codes "+Inf" ∷ [] })

-- the universe has the name as a class of `__name__`
abbrev pub KnowsName : Listing → Bytes → Type 0
KnowsName u name = class_of u 0 name < other_class u 0
