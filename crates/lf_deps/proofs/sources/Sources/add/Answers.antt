use Rattle.std.proofs.Common.{◌≡◌, ◌∷◌, ◌++◌, [], ℕ, List, Option, cond, length, sym, ◌∙◌, ap, subst}
use Rattle.lf_ast.specs.Labels.{Bytes}
use Rattle.lf_ast.specs.Rules.{RuleTree, rule_tree}
use Rattle.lf_classes.specs.views.TextSets.{with_text}
use Rattle.lf_deps.specs.views.Makers.{with_maker}
use Rattle.lf_deps.specs.views.Sources.{IsSourcesOf, Sources}
use Rattle.lf_deps.proofs.Outcomes.{on_both}
use Rattle.lf_deps.proofs.Indexed.{sources_more}
use Rattle.lf_deps.proofs.sources.Sources.add.Goals as goal

sources_as : {s t : List (List (Option Bytes))} {n m : List Bytes} {k l : List (List ℕ)} → s ≡ t → n ≡ m → k ≡ l
    → ◌≡◌ {A = Sources} (record { selected = s; names = n; makers = k }) (record { selected = t; names = m; makers = l })
sources_as e f g = cc

pub returns : goal.returns
returns c =
    let r : RuleTree = rule_tree c.args.rule.now in
    let had : List (List (Option Bytes)) = c.self.inside.selected.items in
    let names : List Bytes = c.self.inside.names in
    let makers : List (List ℕ) = c.self.inside.makers in
    let old : Sources = record { selected = had; names = names; makers = makers } in
    let pushed = c.in_ok-push.ensures.items ∙ ap (λ (x : List (Option Bytes)). had ++ x ∷ []) c.in_ok-selected.ensures in
    let A : Type 0 = c.list_rule.new.names ≡ cond r.alert names (with_text names r.name) in
    let B : Type 0 = c.list_rule.new.makers ≡ cond r.alert makers (with_maker names makers r.name c.args.count) in
    let R : Type 0 = (rules : List RuleTree) → length rules ≡ c.args.count → IsSourcesOf rules c.args.self.now
    → IsSourcesOf (rules ++ r ∷ []) (record { selected = c.push.new.self.items; names = c.list_rule.new.names; makers = c.list_rule.new.makers }) in
    on_both A B R c.list_rule.result
    (λ a b rules count is.
    let P : Sources → Type 0 = λ s. IsSourcesOf rules s in
    let Q : Sources → Type 0 = λ s. IsSourcesOf (rules ++ r ∷ []) s in
    let put = b ∙ ap (λ n. cond r.alert makers (with_maker names makers r.name n)) (sym count) in
    let same = sources_as pushed a put in
    subst Q (sym same) (sources_more rules old (subst P (sym c.self.view_is) is) r))
    c.list_rule.ensures.names c.list_rule.ensures.makers
