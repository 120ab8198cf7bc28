use Rattle.std.proofs.Common.{◌≡◌, ◌<◌, ◌↔◌, ℕ, List, Some, length, sym, ◌∙◌, ap, subst}
use Rattle.std.specs.Prelude.{slice_get}
use Rattle.std.specs.List.{Contains}
use Rattle.std.proofs.lemmas.Result.{IfOk-weaker}
use Rattle.lf_ast.specs.Rules.{RuleTree}
use Rattle.lf_graph.specs.Components.{AreComponents, Components}
use Rattle.lf_graph.specs.Paths.{IsReached}
use Rattle.lf_deps.specs.views.Index.{makers_at}
use Rattle.lf_deps.specs.views.Names.{edges_of}
use Rattle.lf_deps.specs.Reading.{Reaches, selectors}
use Rattle.lf_deps.specs.views.Sources.{Sources}
use Rattle.lf_deps.proofs.LookedUp.{selected_is}
use Rattle.lf_deps.proofs.NamePaths.{nodes, nodes_numbered, reached_from, reached_to}
use Rattle.lf_deps.proofs.reading.reach_of.Goals as goal

pub reached-requires-clause-start : goal.reached-requires-clause-start
reached-requires-clause-start c u there =
    let s : Sources = c.args.sources.now in
    let found = c.selected_by.result.now in
    let P : Components → Type 0 = λ g. u < length g.numbers in
    let Q : List ℕ → Type 0 = λ l. Contains l u in
    let begun : c.as_slice.result.now ≡ nodes s.names found = c.as_slice.ensures ∙ c.in_ok-start.ensures ∙ ap (λ l. nodes l found) c.recorded.ensures in
    subst P (sym c.components.ensures) (nodes_numbered s c.requires.index s.names c.requires.graph.0 c.args.graph.now c.requires.graph.1 found u (subst Q begun there))

pub returns-clause-members : goal.returns-clause-members
returns-clause-members c rules is of here k =
    let s : Sources = c.args.sources.now in
    let numbers : List ℕ = c.in_ok-numbers.numbers in
    let met : List ℕ = c.in_ok-reached.reached in
    let start : List ℕ = nodes s.names (selectors of.expr) in
    let begun : c.as_slice.result.now ≡ start =
    c.as_slice.ensures ∙ c.in_ok-start.ensures ∙ ap (λ l. nodes l c.selected_by.result.now) c.recorded.ensures ∙ ap (nodes s.names) (c.selected_by.ensures ∙ selected_is rules s is c.args.i of here) in
    let P : Components → Type 0 = λ g. AreComponents (edges_of s.names s) g in
    let A : List ℕ → Type 0 = λ l. (v : ℕ) → Contains met v ↔ IsReached (edges_of s.names s) l v in
    let led : A start = subst A begun (c.in_ok-reached.ensures.members (edges_of s.names s) (subst P (sym c.components.ensures) c.requires.graph.1)) in
    let B : List ℕ → Type 0 = λ l. (j : ℕ) → Contains numbers j ↔ ((u : ℕ) × Contains l u × Contains (makers_at s u) j) in
    let all : B met = subst B c.as_slice-2.ensures c.in_ok-numbers.ensures in
    let Q : List ℕ → Type 0 = λ found. Contains found k ↔ ((r : RuleTree) × (slice_get rules k ≡ Some r) × Reaches rules of.expr r) in
    let reached : Q numbers = (λ m. reached_to rules s is s.names c.requires.graph.0 of.expr met led k ((all k).0 m), λ r. (all k).1 (reached_from rules s is s.names c.requires.graph.0 of.expr met led k r)) in
    IfOk-weaker c.in_ascending_order.result (λ found. (j : ℕ) → Contains found j ↔ Contains numbers j) Q (λ found same. (λ h. reached.0 ((same k).0 h), λ h. (same k).1 (reached.1 h))) c.in_ascending_order.ensures.same
