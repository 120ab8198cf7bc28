-- Which rule is the first of a recorded name, and the line of rules in which each comes behind those that it reads.
use Rattle.std.specs.Prelude.{◌≡◌, ◌⊎◌, ◌<◌, ◌≤◌, ℕ, Bool, true, not, ◌||◌, nat_lt, List, [], length, Option, Some, None, slice_get, slice_index_or, take}
use Rattle.std.specs.List.{Contains, list_all}
use Rattle.std.specs.Option.{option_map}
use Rattle.lf_ast.specs.Labels.{Bytes}
use Rattle.lf_ast.specs.Rules.{RuleTree}
use Rattle.lf_deps.specs.Reading.{selectors}
use Rattle.lf_deps.specs.views.Names.{IsPlaced}
use Rattle.lf_semantics.specs.Environments.{records}
use Rattle.lf_semantics.specs.Listing.{Listing, place}
use Rattle.lf_trials.specs.Follow.{Followed, follow, recorded_text}
use Rattle.lf_trials.specs.Reached.{first_rule, is_recorded}
use Rattle.lf_uniform.specs.views.Following.{known_by}

-- the first rule that records a name, with its number
abbrev pub first_of : List RuleTree → Bytes → Option (ℕ × RuleTree)
first_of rules name = first_rule (λ k r. records name r) 0 rules

-- rules in line, and the names that they record
pub record Line : Type 0 where
  pub numbers : List ℕ
  pub names : List Bytes

-- names that are in line stay there
abbrev pub Stays : List Bytes → List Bytes → Type 0
Stays before after = (name : Bytes) → IsPlaced before name → IsPlaced after name

-- that a name is in line, as a test
abbrev pub is_in : List Bytes → Bytes → Bool
is_in names name = nat_lt (place names name) (length names)

-- a selector says no name, or one that isn't recorded or is in line; and so do all of these
abbrev pub is_no_wait : List Bytes → List Bytes → Option Bytes → Bool
is_no_wait recorded names None = true
is_no_wait recorded names (Some name) = not (is_in recorded name) || is_in names name

abbrev pub is_ready : List Bytes → List Bytes → List (Option Bytes) → Bool
is_ready recorded names selected = list_all (is_no_wait recorded names) selected

module _ (rules : List RuleTree) where
  -- each recorded name that the selectors of a rule say is in line
  abbrev pub IsReady : List Bytes → RuleTree → Type 0
  IsReady names r = (name : Bytes) → Contains (selectors r.expr) (Some name) → is_recorded rules name ≡ true → IsPlaced names name

  -- the rule in line at a place is the first of its name, and each recorded name that its selectors say comes before it
  pub record IsEntry (line : Line) (j : ℕ) : Type 0 where
    pub rule : RuleTree
    pub first : first_of rules (slice_index_or line.names j []) ≡ Some (slice_index_or line.numbers j 0, rule)
    pub before : (name : Bytes) → Contains (selectors rule.expr) (Some name) → is_recorded rules name ≡ true → place line.names name < j

  pub record AreEntries (line : Line) : Type 0 where
    pub count : length line.numbers ≡ length line.names
    pub each : (j : ℕ) → j < length line.names → IsEntry line j

  -- the rule of a number is in line if it is the first of its name
  abbrev pub IsSettled : List Bytes → ℕ → Type 0
  IsSettled names k = (r : RuleTree) → slice_get rules k ≡ Some r → first_of rules r.name ≡ Some (k, r) → IsPlaced names r.name

  -- the rule of a number isn't ready
  abbrev pub IsWaiting : List Bytes → ℕ → Type 0
  IsWaiting names k = (r : RuleTree) → slice_get rules k ≡ Some r → IsReady names r → ⊥

  -- a line of some rules: each that is ready is in line, if it is the first of its name
  pub record IsLineOf (numbers : List ℕ) (line : Line) : Type 0 where
    pub entries : AreEntries line
    pub closed : (k : ℕ) → Contains numbers k → IsSettled line.names k ⊎ IsWaiting line.names k

  -- a round over these numbers: some are put off, each of which isn't ready, and the others are settled
  pub record IsRound (before : Line) (numbers : List ℕ) (after : Line) (later : List ℕ) : Type 0 where
    pub entries : AreEntries before → AreEntries after
    pub stays : Stays before.names after.names
    pub fewer : length later ≤ length numbers
    pub among : (k : ℕ) → Contains later k → Contains numbers k
    pub each : (k : ℕ) → Contains numbers k → Contains later k ⊎ IsSettled after.names k
    pub still : length later ≡ length numbers → (after ≡ before) × ((k : ℕ) → Contains numbers k → IsWaiting before.names k)

-- what is told of the names in line, each by what is told of those before it
module _ (u : Listing) (rules : List RuleTree) (label given : Bytes) (line : Line) where
  abbrev pub ValueAt : List Followed → ℕ → Type 0
  ValueAt values j = (r : RuleTree) → slice_get rules (slice_index_or line.numbers j 0) ≡ Some r
      → slice_index_or values j None ≡ option_map (recorded_text label r) (follow u rules label given (known_by line.names (take j values)) r.expr)

  pub record AreValuesBefore (count : ℕ) (values : List Followed) : Type 0 where
    pub count_is : length values ≡ count
    pub each : (j : ℕ) → j < count → ValueAt values j

  abbrev pub AreValues : List Followed → Type 0
  AreValues values = AreValuesBefore (length line.numbers) values
