-- What rule/dependency knows of the recorded names, and what it tells of one name and of one part of an expression.
use Rattle.std.specs.Prelude.{◌≡◌, ◌⊎◌, true, List, Some}
use Rattle.std.specs.List.{Contains}
use Rattle.lf_base.specs.declared.place.Span.{Span}
use Rattle.lf_ast.specs.Labels.{Bytes}
use Rattle.lf_ast.specs.Rules.{RuleTree}
use Rattle.lf_ast.specs.Selectors.{selected_name}
use Rattle.lf_ast.specs.Tree.{Tree, Selector}
use Rattle.lf_deps.specs.Reading.{IsCyclic}
use Rattle.lf_deps.specs.views.Names.{IsNameGraphOf}
use Rattle.lf_deps.specs.views.Sources.{IsSourcesOf}
use Rattle.lf_semantics.specs.Environments.{names_recorded}
use Rattle.lf_checks.specs.Finding.{Finding, RuleDependency, finding}
use Rattle.lf_base.specs.Names.{has_colon}
use Rattle.lf_checks.specs.RuleDependency.{says_cyclic, says_unrecorded}
use Rattle.lf_checks.specs.declared.rule_dependency.RecordedNames.{RecordedNames}

-- they are those of the rules, with what the rules read
pub record AreOf (rules : List RuleTree) (recorded : RecordedNames) : Type 0 where
  pub sources : IsSourcesOf rules recorded.sources
  pub graph : IsNameGraphOf recorded.sources recorded.graph

-- those of some rules
abbrev pub AreOfSome : RecordedNames → Type 0
AreOfSome recorded = (rules : List RuleTree) × AreOf rules recorded

module _ (rules : List RuleTree) where
  -- the name has a colon, and no rule records it
  abbrev pub IsLacking : Bytes → Type 0
  IsLacking name = (has_colon name ≡ true) × (Contains (names_recorded rules) name → ⊥)

  -- what is told of a name at a span
  abbrev pub IsOfName : Bytes → Span → Finding → Type 0
  IsOfName name span f = (IsLacking name × (f ≡ finding RuleDependency span (says_unrecorded name))) ⊎ (IsCyclic rules name × (f ≡ finding RuleDependency span (says_cyclic name)))

  -- what is told of the name of a selector, and nothing of any other part
  abbrev pub IsOfSelector : Tree → Finding → Type 0
  IsOfSelector (Selector before matchers sight span) f = (name : Bytes) × (selected_name before matchers ≡ Some name) × IsOfName name span f
  IsOfSelector _ f = ⊥
