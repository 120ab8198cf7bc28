use Rattle.std.proofs.Common.{◌≡◌, ◌<◌, ◌++◌, ◌∷◌, [], ℕ, List, Option, nat_lt, length, sym, ◌∙◌, ap, subst}
use Rattle.std.specs.List.{Contains, filter}
use Rattle.std.proofs.lemmas.List.{append-nil}
use Rattle.std.proofs.lemmas.Result.{IfOk-weaker}
use Rattle.lf_ast.specs.Labels.{Bytes}
use Rattle.lf_graph.specs.Components.{AreComponents, Components}
use Rattle.lf_deps.specs.views.Links.{source_of}
use Rattle.lf_deps.specs.views.Names.{AreNumbersBy, edges_of}
use Rattle.lf_deps.proofs.NamePaths.{nodes, nodes_numbered, numbers_are}
use Rattle.lf_deps.proofs.name_graph.NameGraph.read_by.Goals as goal

pub reached-requires-clause-start : goal.reached-requires-clause-start
reached-requires-clause-start c u there =
    let names : List Bytes = c.args.names.now in
    let o : Option Bytes = c.args.selector.now in
    let of = c.requires.1 in
    let P : List ℕ → Type 0 = λ l. Contains l u in
    let Q : Components → Type 0 = λ g. u < length g.numbers in
    let begun : c.as_slice.result.now ≡ nodes names (o ∷ []) = c.as_slice.ensures ∙ c.in_ok-push_source.ensures ∙ ap (λ (l : List ℕ). l ++ source_of names o) c.new-start.ensures ∙ sym (append-nil (source_of names o)) in
    subst Q (sym c.self.view_is) (nodes_numbered of.0 (c.requires.0, of.1) names of.2.0 c.args.self.now of.2.1 (o ∷ []) u (subst P begun there))

pub returns : goal.returns
returns c rules of =
    let names : List Bytes = c.args.names.now in
    let o : Option Bytes = c.args.selector.now in
    let P : Components → Type 0 = λ g. AreComponents (edges_of names of.0) g in
    let begun : c.as_slice.result.now ≡ source_of names o = c.as_slice.ensures ∙ c.in_ok-push_source.ensures ∙ ap (λ (l : List ℕ). l ++ source_of names o) c.new-start.ensures in
    let led = c.in_ok-reached.ensures.members (edges_of names of.0) (subst P (sym c.self.view_is) of.2.1) in
    let less : filter (λ k. nat_lt k c.len.result) c.as_slice-2.result.now ≡ filter (λ k. nat_lt k (length names)) c.in_ok-reached.reached =
    ap (λ (n : ℕ). filter (λ k. nat_lt k n) c.as_slice-2.result.now) c.len.ensures.count ∙ ap (filter (λ k. nat_lt k (length names))) c.as_slice-2.ensures in
    IfOk-weaker c.below.result (λ found. found ≡ filter (λ k. nat_lt k c.len.result) c.as_slice-2.result.now) (AreNumbersBy rules names o)
    (λ found is. numbers_are rules of.0 of.1 names of.2.0 o found c.in_ok-reached.reached c.as_slice.result.now begun led (is ∙ less)) c.below.ensures
