-- The names that were sought for selectors that say none: how contracts see the code. It defines nothing.
use Rattle.std.specs.Prelude.{◌≡◌, ℕ, List, Option, Some, None, option_map, slice_get, slice_index_or}
use Rattle.lf_ast.specs.Labels.{Bytes}
use Rattle.lf_ast.specs.Rules.{RuleTree}
use Rattle.lf_ast.specs.Selectors.{selected_name}
use Rattle.lf_ast.specs.Tree.{Tree}
use Rattle.lf_ast.specs.declared.expr.Matcher.{Matcher}
use Rattle.lf_semantics.specs.Listing.{Listing}
use Rattle.lf_trials.specs.Names.{name_for}
use Rattle.lf_candidates.specs.views.ClassTexts.{IsClass, text_at}
use Rattle.lf_built.specs.declared.unsaid.SoughtName.{SoughtName}
use Rattle.lf_built.specs.views.Spots.{IsSelector}

-- the expression is a selector with these matchers that says no name
abbrev pub IsUnnamed : Tree → List Matcher → Type 0
IsUnnamed e matchers = (name : Option Bytes) × IsSelector e name matchers × (selected_name name matchers ≡ None)

module _ (u : Listing) (rules : List RuleTree) where
  -- it is the name of the series for a selector with these matchers, or there is none
  abbrev pub IsNameFor : List Matcher → SoughtName → Type 0
  IsNameFor matchers found = option_map (text_at u 0) found.class ≡ name_for u rules matchers

  -- what was found for an expression, if anything was sought
  abbrev pub IsSought : Tree → Option SoughtName → Type 0
  IsSought e None = Unit {0}
  IsSought e (Some found) = IsClass u 0 found.class × ((matchers : List Matcher) → IsUnnamed e matchers → IsNameFor matchers found)

  -- and for expressions, each in its place
  abbrev pub AreSought : List Tree → List (Option SoughtName) → Type 0
  AreSought all found = (place : ℕ) (e : Tree) → slice_get all place ≡ Some e → IsSought e (slice_index_or found place None)
