-- A building under way: how contracts see the code. It defines nothing.
use Rattle.std.specs.Prelude.{◌≡◌, ◌≤◌, ◌+◌, ◌-◌, ◌*◌, ◌||◌, ℕ, suc, Bool, true, false, List, [], ◌∷◌, ◌++◌, map, reverse, Option, Some, None, option_and_then, slice_get}
use Rattle.std.specs.List.{sum_by}
use Rattle.lf_ast.specs.Labels.{Bytes}
use Rattle.lf_ast.specs.Rules.{RuleTree}
use Rattle.lf_ast.specs.Tree.{Tree}
use Rattle.lf_ast.specs.declared.expr.Matcher.{Matcher}
use Rattle.lf_semantics.specs.Grouped.{is_metric}
use Rattle.lf_trials.specs.Building.{Builder, Building, and_then, both}
use Rattle.lf_trials.specs.Built.{build_by_rule, build_selector, builder, sets_label}
use Rattle.lf_trials.specs.Given.{Given, losing}
use Rattle.lf_candidates.specs.views.ClassTexts.{Stands}
use Rattle.lf_built.specs.declared.made.BuiltSeries.{BuiltSeries}
use Rattle.lf_built.specs.declared.prepared.Prepared.{Prepared}
use Rattle.lf_built.specs.declared.spots.Spot.{Spot}
use Rattle.lf_built.specs.declared.work.WantedParts.{WantedParts}
use Rattle.lf_built.specs.declared.work.WantedParts.TheVariants as P
use Rattle.lf_built.specs.declared.work.Pending.{Pending}
use Rattle.lf_built.specs.declared.work.Pending.TheVariants as T
use Rattle.lf_built.specs.declared.work.Work.{Work}
use Rattle.lf_built.specs.views.Indexed.{env_of, forks_of, trees_of, universe_of}
use Rattle.lf_built.specs.views.Places.{size}
use Rattle.lf_built.specs.views.Spots.{IsSpot, tree_at}
use Rattle.lf_built.specs.views.Tasks.{Finish, Task, Visit, Wanted, built_for, outcome}

-- what was made so far
abbrev pub so_far : BuiltSeries → Building
so_far m = record { series = m.series.items; steps = m.steps.items; selectors = m.selectors }

-- the code's tasks, the next one first

abbrev pub stack_of : Work → List Pending
stack_of w = reverse w.stack.items

abbrev pub marks_of : Work → List ℕ
marks_of w = reverse w.marked

-- each is one of these tasks, whose texts are given by classes
abbrev pub AreTasks : Prepared → List Pending → List Task → Type 0
AreTasks p [] [] = Unit {0}
AreTasks p (T.Visit spot texts ∷ stack) (Visit w ∷ tasks) = IsSpot (trees_of p) spot × (tree_at spot ≡ w.expr) × Stands (universe_of p) texts w.texts × AreTasks p stack tasks
AreTasks p (T.Finish ∷ stack) (Finish ∷ tasks) = AreTasks p stack tasks
AreTasks p _ _ = ⊥

-- what tasks build
abbrev pub outcome_of : Prepared → Work → List Task → Option Building
outcome_of p w tasks = outcome (universe_of p) (env_of p) (trees_of p) (forks_of p) w.unmarked (marks_of w) tasks

-- the whole is what was made and what these tasks build
pub record Leaves (p : Prepared) (whole : Option Building) (stack : List Pending) (w : Work) : Type 0 where
  pub tasks : List Task
  pub are : AreTasks p stack tasks
  pub rest : whole ≡ and_then (Some (so_far w.made)) (outcome_of p w tasks)

-- the whole is what was made, this, and what the tasks build
pub record LeavesBehind (p : Prepared) (whole : Option Building) (built : Option Building) (w : Work) : Type 0 where
  pub tasks : List Task
  pub are : AreTasks p (stack_of w) tasks
  pub rest : whole ≡ and_then (Some (so_far w.made)) (and_then built (outcome_of p w tasks))

-- what builds a recorded name, with these marks
abbrev pub by_rule_of : Prepared → Work → Bytes → Builder
by_rule_of p w = build_by_rule (universe_of p) (env_of p) (trees_of p) (forks_of p) w.unmarked (marks_of w)

-- what is built for an expression, a selector and expressions

abbrev pub expression_of : Prepared → Work → Tree → Builder
expression_of p w e = builder (universe_of p) (env_of p) (trees_of p) (forks_of p) (by_rule_of p w) e

abbrev pub selector_of : Prepared → Work → Option Bytes → List Matcher → Builder
selector_of p w name matchers = build_selector (universe_of p) (trees_of p) (by_rule_of p w) name matchers

abbrev pub all_of : Prepared → Work → Option (List Wanted) → Option Building
all_of p w wanted = option_and_then (built_for (universe_of p) (env_of p) (trees_of p) (forks_of p) (by_rule_of p w)) wanted

-- a rule of this number was picked for these texts: it is marked, and its expression is to be built, and then its step to be added
pub record IsEntered (p : Prepared) (k : ℕ) (D : Given) (before after : Work) : Type 0 where
  pub rule : RuleTree
  pub is_rule : slice_get (trees_of p) k ≡ Some rule
  pub spot : Spot
  pub is_spot : IsSpot (trees_of p) spot
  pub is_expr : tree_at spot ≡ rule.expr
  pub texts : List (Option ℕ)
  pub stands : Stands (universe_of p) texts (losing (λ name. is_metric name || sets_label rule name) D)
  pub stack : after.stack.items ≡ (before.stack.items ++ T.Finish ∷ []) ++ T.Visit spot texts ∷ []
  pub marked : after.marked ≡ before.marked ++ k ∷ []
  pub unmarked : before.unmarked ≡ suc after.unmarked
  pub made : so_far after.made ≡ both (so_far before.made) (record { series = []; steps = []; selectors = 1 })

-- with its tasks it is the whole
abbrev pub Builds : Prepared → Option Building → Work → Type 0
Builds p whole w = Leaves p whole (stack_of w) w

-- there is no world of so few selectors
abbrev pub NoWorld : ℕ → Option Building → Type 0
NoWorld most whole = (b : Building) → whole ≡ Some b → b.selectors ≤ most → ⊥

-- the whole is still what is built, and few selectors were; or there is no world
abbrev pub GoesOn : Prepared → ℕ → Option Building → Work → Bool → Type 0
GoesOn p most whole w true = Builds p whole w × (w.made.selectors ≤ most)
GoesOn p most whole w false = NoWorld most whole

-- what was built is the whole; or there is no world
abbrev pub IsOutcome : ℕ → Option Building → Option BuiltSeries → Type 0
IsOutcome most whole (Some m) = (whole ≡ Some (so_far m)) × (m.selectors ≤ most)
IsOutcome most whole None = NoWorld most whole

-- parts that are to be built

abbrev pub tasks_of : WantedParts → List Pending
tasks_of P.Nothing = []
tasks_of (P.One spot texts) = T.Visit spot texts ∷ []
tasks_of (P.Both left left_texts right right_texts) = T.Visit left left_texts ∷ T.Visit right right_texts ∷ []

-- how much is to be done

abbrev pub weight : Pending → ℕ
weight (T.Visit spot texts) = size (tree_at spot)
weight T.Finish = 1

-- the parts are those that are wanted, and have less in them than their expression
abbrev pub AreParts : Prepared → Tree → Option (List Wanted) → Option WantedParts → Type 0
AreParts p e (Some wanted) (Some parts) = AreTasks p (tasks_of parts) (map Visit wanted) × (sum_by weight (tasks_of parts) + 1 ≤ size e)
AreParts p e None None = Unit {0}
AreParts p e _ _ = ⊥

-- more than each rule's expression has in it
abbrev pub largest : List RuleTree → ℕ
largest rules = sum_by (λ r. size r.expr) rules + 1

-- each step makes it less: the selectors that may still be built, and what is in the tasks
abbrev pub effort : Prepared → ℕ → Work → ℕ
effort p most w = (most - w.made.selectors) * largest (trees_of p) + sum_by weight (stack_of w)
