-- What rule/duplicate keeps of the rules before one: the first of those that are the same.
use Rattle.std.specs.Prelude.{◌≡◌, ◌<◌, ◌≤◌, ℕ, Bool, false, true, List, [], Option, Some, None, length, nat_lt, slice_get, slice_index_or, take}
use Rattle.lf_ast.specs.Labels.{Bytes}
use Rattle.lf_ast.specs.Rules.{RuleTree}
use Rattle.lf_semantics.specs.Listing.{place}
use Rattle.lf_deps.specs.views.Index.{makers_of}
use Rattle.lf_deps.specs.views.Sources.{Sources}
use Rattle.lf_checks.specs.RuleDuplicate.{AreSameRule}
use Rattle.lf_checks.specs.views.Keys.{key_of}

-- none of the rules is the same as r
abbrev pub HaveNone : List RuleTree → RuleTree → Type 0
HaveNone rules r = (j : ℕ) (s : RuleTree) → slice_get rules j ≡ Some s → AreSameRule r s → ⊥

-- the first of the rules that is the same as r has number j
abbrev pub IsFirst : List RuleTree → RuleTree → ℕ → Type 0
IsFirst rules r j = (s : RuleTree) × (slice_get rules j ≡ Some s) × AreSameRule r s × ((k : ℕ) (t : RuleTree) → k < j → slice_get rules k ≡ Some t → AreSameRule r t → ⊥)

-- the first of the rules that is the same as r, if there is one
abbrev pub IsFirstOf : List RuleTree → RuleTree → Option ℕ → Type 0
IsFirstOf rules r None = HaveNone rules r
IsFirstOf rules r (Some j) = IsFirst rules r j

-- for each rule the first of those before it that is the same, if there is one
pub record AreFirsts (rules : List RuleTree) (firsts : List (Option ℕ)) : Type 0 where
  pub count : length firsts ≡ length rules
  pub each : (i : ℕ) (r : RuleTree) → slice_get rules i ≡ Some r → IsFirstOf (take i rules) r (slice_index_or firsts i None)

-- several rules record the name
abbrev pub is_shared : Sources → Bytes → Bool
is_shared sources name = nat_lt 1 (length (makers_of sources name))

-- the texts that recording rules with some names are written as, each once, and for each the number of the first rule that is written so
pub record AreKept (among : Bytes → Bool) (rules : List RuleTree) (keys : List Bytes) (numbers : List ℕ) : Type 0 where
  pub count : length numbers ≡ length keys
  pub each : (p : ℕ) → p < length keys → (r : RuleTree) × (slice_get rules (slice_index_or numbers p 0) ≡ Some r) × (r.alert ≡ false) × (slice_index_or keys p [] ≡ key_of r)
  pub all : (j : ℕ) (r : RuleTree) → slice_get rules j ≡ Some r → r.alert ≡ false → among r.name ≡ true → (place keys (key_of r) < length keys) × (slice_index_or numbers (place keys (key_of r)) 0 ≤ j)
