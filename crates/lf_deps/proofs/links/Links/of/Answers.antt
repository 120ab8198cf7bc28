use Rattle.std.proofs.Common.{◌≡◌, ◌+◌, ℕ, List, [], ◌∷◌, map, length, Option, refl, sym, ◌∙◌, ap, subst}
use Rattle.std.specs.List.{flat_map}
use Rattle.lf_ast.specs.Labels.{Bytes}
use Rattle.lf_ast.specs.Rules.{RuleTree, rule_trees}
use Rattle.lf_deps.specs.views.Links.{recorded_at, source_of}
use Rattle.lf_deps.specs.Reading.{selectors}
use Rattle.lf_deps.specs.views.Sources.{IsSourcesOf, Sources}
use Rattle.lf_deps.proofs.RuleTrees.{map_trees}
use Rattle.lf_deps.proofs.links.Links.of.Goals as goal

through : (f : List (Option Bytes) → List ℕ) (rules : List RuleTree) → map f (map (λ (r : RuleTree). selectors r.expr) rules) ≡ map (λ (r : RuleTree). f (selectors r.expr)) rules
through f [] = refl
through f (r ∷ rules) = ap (λ (l : List (List ℕ)). f (selectors r.expr) ∷ l) (through f rules)

pub returns : goal.returns
returns c =
    let rules : List RuleTree = rule_trees c.args.rules.now in
    let names : List Bytes = c.index.inside.names in
    let P : Sources → Type 0 = λ s. IsSourcesOf rules s in
    let is = subst P (sym c.index.view_is) c.requires in
    let by : List Bytes → List (Option Bytes) → List ℕ = λ ns found. flat_map (source_of ns) found in
    record {
      count = ap (λ (n : ℕ). n + 1) (c.len.ensures.count ∙ ap length is.names);
      waited = c.in_ok-waited.ensures ∙ ap (map (by names)) (c.as_slice.ensures.value ∙ is.selected) ∙ through (by names) rules ∙ ap (λ (ns : List Bytes). map (λ (r : RuleTree). flat_map (source_of ns) (selectors r.expr)) rules) is.names;
      recorded = c.in_ok-recorded.ensures ∙ map_trees (recorded_at names) c.args.rules.now ∙ ap (λ (ns : List Bytes). map (recorded_at ns) rules) is.names;
    }
