-- The world that is built to show a text of a label on a sample of a rule: for each construct what is added so that it gives a sample with the texts that are given.
use Rattle.std.specs.Prelude.{◌≡◌, ◌≤◌, ℕ, zero, suc, ◌*◌, Bool, not, ◌&&◌, ◌||◌, cond, List, [], ◌∷◌, length, map, Option, Some, None, option_and_then, option_map, slice_get}
use Rattle.std.specs.List.{find, list_any, sum}
use Rattle.std.specs.Option.{option_or}
use Rattle.std.specs.Str.{bytes_eq}
use Rattle.lf_ast.specs.Functions.{aggregation, function_named}
use Rattle.lf_ast.specs.Labels.{Bytes}
use Rattle.lf_ast.specs.Rules.{RuleTree}
use Rattle.lf_ast.specs.Selectors.{metric, selected_name}
use Rattle.lf_ast.specs.Tree.{Tree, Trees, Number, Str, Selector, Subquery, Paren, Unary, Binary, Call, Aggregate, Nil, Next}
use Rattle.lf_ast.specs.declared.expr.Grouping.TheVariants.{None as Ungrouped}
use Rattle.lf_ast.specs.declared.expr.Matcher.{Matcher}
use Rattle.lf_deps.specs.Reading.{selectors}
use Rattle.lf_semantics.specs.Environments.{records, recorded_row, rule_row}
use Rattle.lf_semantics.specs.Grouped.{is_metric}
use Rattle.lf_semantics.specs.Listing.{Listing}
use Rattle.lf_semantics.specs.Parts.{is_scalar_part}
use Rattle.lf_semantics.specs.RowTable.{Environment, row_of}
use Rattle.lf_trials.specs.Building.{Builder, Building, each_once, nothing, one_more, with_series, with_step}
use Rattle.lf_trials.specs.Candidates.{candidates_in, has_presence, labels_in}
use Rattle.lf_trials.specs.Forks.{TellsForks}
use Rattle.lf_trials.specs.Given.{Given, completed, giving, holds_texts, label_set, losing, nothing_given}
use Rattle.lf_trials.specs.Matched.{build_binary}
use Rattle.lf_trials.specs.Names.{is_scraped_name, name_for}
use Rattle.lf_trials.specs.Operands.{build_call, build_nameless_if}
use Rattle.lf_witness.specs.StrictRuns.{rules_at}
use Rattle.lf_trials.specs.Reached.{IsReach, Trial, first_rule, is_marked, is_recorded, with_reach}

-- selectors

module _ (u : Listing) (rules : List RuleTree) where
  -- the series D under a name
  abbrev pub series_named : Option Bytes → Builder
  series_named None D = None
  series_named (Some name) D = with_series (label_set (labels_in u) (giving metric name D))

  -- D's name where scraped series may have it, and else the first one that passes
  abbrev pub name_of_series : List Matcher → Given → Option Bytes
  name_of_series matchers D = option_or (option_and_then (λ name. cond (is_scraped_name rules name) (Some name) None) (D metric)) (name_for u rules matchers)

  -- a recorded name is built by a rule, and a scraped one adds the series D under that name. No series has the empty name
  abbrev pub build_selector : (Bytes → Builder) → Option Bytes → List Matcher → Builder
  build_selector build_rule (Some name) matchers D =
      cond (is_recorded rules name) (option_map one_more (build_rule name D)) (cond (bytes_eq name []) None (series_named (Some name) D))
  build_selector build_rule None matchers D = series_named (name_of_series matchers D) D

-- a label that a rule sets
abbrev pub sets_label : RuleTree → Bytes → Bool
sets_label r name = list_any (λ l. bytes_eq l.key name) r.labels

module _ (u : Listing) (env : Environment) (rules : List RuleTree) (holds_fork : Tree → Bool) where
  -- what an expression is built from: D as it is where the expression holds a fork, and else D completed by the expression's row
  abbrev pub handed : Tree → Given → Option Given
  handed e D = cond (holds_fork e) (Some D) (completed u (row_of u env e) D)

  -- an expression, with what builds it
  abbrev pub build : Tree → Builder → Builder
  build e builder D = option_and_then builder (handed e D)

  -- expressions, with what builds a recorded name

  module _ (build_rule : Bytes → Builder) where
    abbrev mutual
      -- what builds an expression
      pub builder : Tree → Builder
      builder (Number text span) D = nothing
      builder (Str text span) D = None
      builder (Selector name matchers sight span) D = build_selector u rules build_rule (selected_name name matchers) matchers D
      builder (Subquery of sight span) D = build of (builder of) D
      builder (Paren of span) D = build of (builder of) D
      builder (Unary minus of span) D = build_nameless_if minus (build of (builder of)) D
      builder (Binary op m left right span) D =
          build_binary u op m (is_scalar_part left) (is_scalar_part right) (row_of u env left) (row_of u env right) (build left (builder left)) (build right (builder right)) D
      builder (Call name args span) D = build_call (function_named name) Ungrouped args (argument_builder args) D
      builder (Aggregate op grouping args span) D = build_call (Some (aggregation op)) grouping args (argument_builder args) D

      -- what builds argument k, counted from 0
      pub argument_builder : Trees → ℕ → Builder
      argument_builder Nil k D = None
      argument_builder (Next x xs) zero D = build x (builder x) D
      argument_builder (Next x xs) (suc k) D = argument_builder xs k D

  -- recorded names

  -- an unmarked rule of the name whose row, once recorded, holds all texts of D
  abbrev pub fits : List ℕ → Bytes → Given → ℕ → RuleTree → Bool
  fits marked name D k r = records name r && (not (is_marked marked k) && holds_texts u (recorded_row u env r) D)

  -- D without the name and without the labels that the rule sets
  abbrev pub before_recording : RuleTree → Given → Given
  before_recording r D = losing (λ name. is_metric name || sets_label r name) D

  -- The first rule that fits is marked, its expression is built, the mark is taken off, and its step is added. At most so many rules aren't marked yet: each that is
  -- built marks one, so they run out before the number does.
  abbrev pub build_by_rule : ℕ → List ℕ → Bytes → Builder
  build_by_rule zero marked name D = None
  build_by_rule (suc unmarked) marked name D =
      option_and_then
      (λ found. option_map (with_step found.0) (build found.1.expr (builder (build_by_rule unmarked (found.0 ∷ marked)) found.1.expr) (before_recording found.1 D)))
      (first_rule (fits marked name D) 0 rules)

  -- the world of rule i, for a label and a presence: D is the first candidate of this presence in the row of the rule, which is marked
  abbrev pub start_text : RuleTree → Bytes → Bool → Option Bytes
  start_text r label presence = find (has_presence presence) (candidates_in u (rule_row u env r) label)

  abbrev pub building_of : ℕ → RuleTree → Bytes → Bool → Option Building
  building_of i r label presence =
      option_and_then (λ text. build r.expr (builder (build_by_rule (length rules) (i ∷ [])) r.expr) (giving label text nothing_given)) (start_text r label presence)

-- how many selectors stand in some rules, outside scalars
abbrev pub selector_count : List RuleTree → List ℕ → ℕ
selector_count rules numbers = sum (map (λ r. length (selectors r.expr)) (rules_at rules numbers))

-- what was built as a trial: each series once
abbrev pub built_trial : Building → Trial
built_trial b = record { series = each_once b.series; steps = b.steps }

-- The built world for a label and a presence. There is none where selectors, all of them together, are built more than four times as often as they stand in the rule and in its
-- reach, outside scalars.
pub record IsBuilt (u : Listing) (env : Environment) (rules : List RuleTree) (i : ℕ) (label : Bytes) (presence : Bool) (trial : Trial) : Type 0 where
  pub holds_fork : Tree → Bool
  pub tells_forks : TellsForks rules holds_fork
  pub rule : RuleTree
  pub is_rule : slice_get rules i ≡ Some rule
  pub reach : List ℕ
  pub is_reach : IsReach rules rule.expr reach
  pub built : Building
  pub is_built : building_of u env rules holds_fork i rule label presence ≡ Some built
  pub bounded : built.selectors ≤ 4 * selector_count rules (with_reach i reach)
  pub is_trial : trial ≡ built_trial built
