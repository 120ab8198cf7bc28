-- Names of series, as they are put behind each other.
use Rattle.std.specs.Prelude.{cond, List, [], ◌∷◌, Option, Some, None, option_to_list}
use Rattle.std.specs.List.{flat_map}
use Rattle.lf_ast.specs.Labels.{Bytes}
use Rattle.lf_ast.specs.Rules.{RuleTree}
use Rattle.lf_ast.specs.Selectors.{selected_name}
use Rattle.lf_ast.specs.Tree.{Tree, Selector}
use Rattle.lf_ast.specs.declared.expr.Matcher.{Matcher}
use Rattle.lf_classes.specs.views.TextSets.{with_text}
use Rattle.lf_semantics.specs.Listing.{Listing}
use Rattle.lf_trials.specs.Names.{is_scraped_name}
use Rattle.lf_trials.specs.Selected.{Selected, selectors_of}
use Rattle.lf_trials.specs.Uniform.{name_said, name_unsaid}

-- each of some texts goes behind the others, unless it is there
abbrev pub with_each : List Bytes → List Bytes → List Bytes
with_each names [] = names
with_each names (x ∷ xs) = with_each (with_text names x) xs

-- the scraped names that selectors say
abbrev pub said_one : List RuleTree → Option Bytes → List Bytes
said_one rules None = []
said_one rules (Some name) = cond (is_scraped_name rules name) (name ∷ []) []

abbrev pub said_by : List RuleTree → List (Option Bytes) → List Bytes
said_by rules found = flat_map (said_one rules) found

abbrev pub said_all : List RuleTree → List Selected → List Bytes
said_all rules selected = flat_map (λ s. option_to_list (name_said rules s)) selected

module _ (u : Listing) (rules : List RuleTree) where
  -- the names for selectors that say none
  abbrev pub unsaid_one : Option Bytes → List Matcher → List Bytes
  unsaid_one name matchers = option_to_list (name_unsaid u rules (record { name = selected_name name matchers; matchers = matchers }))

  abbrev pub unsaid_by : List Selected → List Bytes
  unsaid_by selected = flat_map (λ s. option_to_list (name_unsaid u rules s)) selected

  -- that of an expression itself, and those in it
  abbrev pub own_unsaid : Tree → List Bytes
  own_unsaid (Selector name matchers sight span) = unsaid_one name matchers
  own_unsaid _ = []

  abbrev pub unsaid_in : Tree → List Bytes
  unsaid_in e = unsaid_by (selectors_of e)
