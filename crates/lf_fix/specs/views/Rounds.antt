-- Rounds over the rules, which raise the rows of the recorded names until the environment is closed: how contracts see the code. It defines nothing.
use Rattle.std.specs.Prelude.{◌≡◌, ℕ, ◌+◌, ◌<◌, Bool, true, false, cond, List, [], ◌∷◌, map, Some, slice_get, slice_index_or, slice_set, take}
use Rattle.std.specs.List.{Contains}
use Rattle.lf_ast.specs.Rules.{RuleTree}
use Rattle.lf_flow.specs.Raising.{joined}
use Rattle.lf_semantics.specs.ClassRows.{Sets, bottom}
use Rattle.lf_semantics.specs.Environments.{EnvironmentLeq, HoldsRule, IsPostFixedPoint, IsEnvironmentOf, recorded_names, recorded_row}
use Rattle.lf_semantics.specs.Listing.{Listing}
use Rattle.lf_semantics.specs.RowTable.{Environment, scraped_row}
use Rattle.lf_fix.specs.views.Dependents.{SelectsRow}

-- no recorded name has a sample
abbrev pub start : Listing → List RuleTree → Environment
start u rules = map (λ name. (name, bottom u)) (recorded_names rules)

-- how many classes a set lacks, a row, and the rows of an environment: no more than these can be added
abbrev pub missing_in : List Bool → ℕ
missing_in [] = 0
missing_in (on ∷ set) = cond on (missing_in set) (1 + missing_in set)

abbrev pub missing_of : Sets → ℕ
missing_of [] = 0
missing_of (set ∷ row) = missing_in set + missing_of row

abbrev pub missing : Environment → ℕ
missing [] = 0
missing (entry ∷ env) = missing_of entry.1 + missing env

-- the row of all scraped series, in each environment of the rules
abbrev pub IsSeriesRow : Listing → List RuleTree → Sets → Type 0
IsSeriesRow u rules row = (env : Environment) → IsEnvironmentOf u rules env → row ≡ scraped_row u env

-- what steps make of an environment: one of the same rules, in each closed one in which the earlier one lies
pub record Rises (u : Listing) (rules : List RuleTree) (env later : Environment) : Type 0 where
  pub of_rules : IsEnvironmentOf u rules later
  pub below : (other : Environment) → IsEnvironmentOf u rules other → IsPostFixedPoint u rules other → EnvironmentLeq env other → EnvironmentLeq later other

-- each rule that isn't dirty is held
abbrev pub OthersHold : Listing → List RuleTree → Environment → List Bool → Type 0
OthersHold u rules env dirty = (k : ℕ) (r : RuleTree) → slice_get rules k ≡ Some r → slice_index_or dirty k true ≡ false → HoldsRule u env r

-- Joining the row of what the rule at k stores tells whether it added a class: then fewer are missing, and else the environment is the same and holds the rule.
pub record TellsOf (u : Listing) (rules : List RuleTree) (k : ℕ) (env later : Environment) (added : Bool) : Type 0 where
  pub rises : Rises u rules env later
  pub less : added ≡ true → missing later < missing env
  pub same : added ≡ false → later ≡ env
  pub holds : added ≡ false → (r : RuleTree) → slice_get rules k ≡ Some r → HoldsRule u env r
  pub joins : added ≡ true → (r : RuleTree) → slice_get rules k ≡ Some r → (r.alert ≡ false) × (later ≡ joined r.name (recorded_row u env r) env)

-- A step of the rule at k does so where the rule is dirty, and then the rule isn't dirty any more. Rules become dirty, it or others, only where a class is added, and only
-- those that select the row of its name.
pub record StepTells (u : Listing) (rules : List RuleTree) (k : ℕ) (env later : Environment) (dirty after : List Bool) (added : Bool) : Type 0 where
  pub rises : Rises u rules env later
  pub less : added ≡ true → missing later < missing env
  pub same : added ≡ false → later ≡ env
  pub hold : OthersHold u rules later after
  pub done : added ≡ false → slice_index_or after k true ≡ false
  pub still : added ≡ false → (j : ℕ) → slice_index_or dirty j true ≡ false → slice_index_or after j true ≡ false
  pub again : (j : ℕ) (r rule : RuleTree) → slice_get rules j ≡ Some r → slice_get rules k ≡ Some rule → slice_index_or (slice_set dirty k false) j true ≡ false → slice_index_or after j true ≡ true → (added ≡ true) × SelectsRow r.expr rule.name

-- Steps of the first n rules of an order in turn: where no class is added, none of these is dirty any more.
pub record Tells (u : Listing) (rules : List RuleTree) (order : List ℕ) (n : ℕ) (env later : Environment) (after : List Bool) (added : Bool) : Type 0 where
  pub rises : Rises u rules env later
  pub less : added ≡ true → missing later < missing env
  pub same : added ≡ false → later ≡ env
  pub hold : OthersHold u rules later after
  pub done : added ≡ false → (k : ℕ) → Contains (take n order) k → slice_index_or after k true ≡ false
