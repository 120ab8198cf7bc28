-- What `absent` looks for, as the program goes over the matchers.
use Rattle.std.specs.Prelude.{◌≡◌, ◌<◌, ℕ, Bool, not, ◌&&◌, ◌||◌, cond, eqb, List, [], length, slice_index_or}
use Rattle.std.specs.List.{count_by, list_any}
use Rattle.lf_ast.specs.Labels.{Bytes}
use Rattle.lf_ast.specs.declared.expr.Matcher.{Matcher}
use Rattle.lf_semantics.specs.Listing.{Listing, class_of}
use Rattle.lf_ast.specs.Selectors.{is_equal}
use Rattle.lf_semantics.specs.RowTable.{is_label, is_metric_label}

-- of an `=` its text, and of any other matcher none
abbrev pub sought_text : Matcher → Bytes
sought_text m = cond (is_equal m.op) m.value []

module _ (u : Listing) (label : ℕ) where
  -- a matcher stands on the label; those on the metric name are not looked at
  abbrev pub is_on_label : Matcher → Bool
  is_on_label m = not (is_metric_label u label) && is_label u m.label label

  -- a matcher on the label has a text of the class
  abbrev pub gives_class : ℕ → Matcher → Bool
  gives_class class m = is_on_label m && eqb (class_of u label (sought_text m)) class

  -- one of the matchers on the label has a text of the class; the empty text is one unless there is exactly one matcher, and where the sample may be bare
  abbrev pub is_class_sought : Bool → List Matcher → ℕ → Bool
  is_class_sought bare matchers class = list_any (gives_class class) matchers || (eqb class 0 && (bare || not (eqb (count_by is_on_label matchers) 1)))

-- how many matchers stand on each label
pub record AreCounts (u : Listing) (matchers : List Matcher) (counts : List ℕ) : Type 0 where
  pub count : length counts ≡ length u.named
  pub at : (label : ℕ) → label < length u.named → slice_index_or counts label 0 ≡ count_by (is_on_label u label) matchers
