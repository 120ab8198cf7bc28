-- Which selectors read a rule that is chosen: how contracts see the code. It defines nothing.
use Rattle.std.specs.Prelude.{◌≡◌, ◌<◌, ◌⊎◌, ◌↔◌, ℕ, Bool, true, false, cond, List, [], ◌∷◌, Option, Some, length, slice_get, slice_index_or}
use Rattle.std.specs.List.{Contains}
use Rattle.lf_ast.specs.Labels.{Bytes}
use Rattle.lf_ast.specs.Rules.{RuleTree}
use Rattle.lf_ast.specs.Selectors.{selected_name}
use Rattle.lf_ast.specs.Tree.{Tree, Selector}
use Rattle.lf_deps.specs.Reading.{Reaches}
use Rattle.lf_deps.specs.views.Search.{ReadsBy}
use Rattle.lf_semantics.specs.Environments.{recorded_names}
use Rattle.lf_semantics.specs.Listing.{place}
use Rattle.lf_forks.specs.views.NameMarks.{NameMarks, has_mark}

-- the place of a name, if there is to be one
abbrev pub place_if : Bool → List Bytes → Bytes → List ℕ
place_if on names name = cond on (place names name ∷ []) []

module _ (rules : List RuleTree) (chosen : List Bool) where
  -- the rule of number k, which is before number i, records a name and is chosen
  pub record IsChosen (i k : ℕ) (r : RuleTree) : Type 0 where
    pub before : k < i
    pub at : slice_get rules k ≡ Some r
    pub recording : r.alert ≡ false
    pub picked : slice_index_or chosen k false ≡ true

  -- the marks of the names of such rules
  pub record AreMarksUpTo (i : ℕ) (m : NameMarks) : Type 0 where
    pub names : m.names ≡ recorded_names rules
    pub count : length m.marked ≡ length m.names
    pub marked : (p : ℕ) → p < length m.marked → (slice_index_or m.marked p false ≡ true) ↔ ((k : ℕ) × (r : RuleTree) × IsChosen i k r × (place m.names r.name ≡ p))
    pub without_name : (m.without_name ≡ true) ↔ ((k : ℕ) × (r : RuleTree) × IsChosen i k r)

  abbrev pub AreMarks : NameMarks → Type 0
  AreMarks m = AreMarksUpTo (length rules) m

-- a rule is chosen if it passes the test, or reads a rule that does
abbrev pub AreChosenBy : List RuleTree → (RuleTree → Bool) → List Bool → Type 0
AreChosenBy rules of_rule chosen =
    (k : ℕ) (r : RuleTree) → slice_get rules k ≡ Some r → (slice_index_or chosen k false ≡ true) ↔ ((of_rule r ≡ true) ⊎ ((s : RuleTree) × Contains rules s × Reaches rules r.expr s × (of_rule s ≡ true)))

-- what is marked reads a rule that passes the test
abbrev pub TellsReading : List RuleTree → (RuleTree → Bool) → NameMarks → Type 0
TellsReading rules of_rule m = (o : Option Bytes) → (has_mark m o ≡ true) ↔ ((r : RuleTree) × Contains rules r × (r.alert ≡ false) × ReadsBy rules (o ∷ []) r.name × (of_rule r ≡ true))

-- the expression is a selector that is marked
abbrev pub marks_tree : NameMarks → Tree → Bool
marks_tree m (Selector name matchers sight span) = has_mark m (selected_name name matchers)
marks_tree m _ = false
