use Rattle.std.proofs.Common.{◌≡◌, ◌<◌, ℕ, length, sym, ◌∙◌, ap, subst, arith}
use Rattle.std.proofs.lemmas.Bool.Decides.{nat_tests}
use Rattle.lf_ast.specs.Labels.{Bytes}
use Rattle.lf_graph.specs.Components.{AreComponents, Components}
use Rattle.lf_graph.specs.Paths.{IsOnCircle}
use Rattle.lf_semantics.specs.Listing.{place}
use Rattle.lf_deps.specs.views.Names.{edges_of}
use Rattle.lf_deps.specs.views.Sources.{Sources}
use Rattle.lf_deps.proofs.NamePaths.{circle_cyclic, cyclic_circle, names_numbered}
use Rattle.lf_deps.proofs.reading.cyclic_of.Goals as goal

pub is_on_circle-requires-clause-node : goal.is_on_circle-requires-clause-node
is_on_circle-requires-clause-node c =
    let s : Sources = c.args.sources.now in
    let P : Components → Type 0 = λ g. c.place-place.result < length g.numbers in
    let size = ap length c.recorded-names.ensures in
    subst P (sym c.components.ensures) (names_numbered s c.requires.index s.names c.requires.graph.0 c.args.graph.now c.requires.graph.1 c.place-place.result (omega (arith, c.if-place-len.true, c.len.ensures.count, size)))

pub returns-then-place-len : goal.returns-then-place-len
returns-then-place-len c rules is =
    let s : Sources = c.args.sources.now in
    let name : Bytes = c.args.name.now in
    let at : ℕ = c.place-place.result in
    let e : at ≡ place s.names name = c.place-place.ensures.place ∙ ap (λ l. place l c.as_str.result.now) c.recorded-names.ensures ∙ ap (place s.names) c.as_str.ensures in
    let size = ap length c.recorded-names.ensures in
    let P : Components → Type 0 = λ g. AreComponents (edges_of s.names s) g in
    let Q : ℕ → Type 0 = λ k. IsOnCircle (edges_of s.names s) k in
    let on = c.is_on_circle.ensures (edges_of s.names s) (subst P (sym c.components.ensures) c.requires.graph.1) in (
      λ t. circle_cyclic rules s is s.names c.requires.graph.0 name (omega (arith, e, c.if-place-len.true, c.len.ensures.count, size)) (subst Q e (on.0 t)),
      λ y. on.1 (subst Q (sym e) (cyclic_circle rules s is s.names c.requires.graph.0 name y).1),
    )

pub returns-else-place-len : goal.returns-else-place-len
returns-else-place-len c rules is =
    let s : Sources = c.args.sources.now in
    let name : Bytes = c.args.name.now in
    let at : ℕ = c.place-place.result in
    let e : at ≡ place s.names name = c.place-place.ensures.place ∙ ap (λ l. place l c.as_str.result.now) c.recorded-names.ensures ∙ ap (place s.names) c.as_str.ensures in
    let size = ap length c.recorded-names.ensures in
    let h = c.if-place-len.false in (
      λ t. let b : at < c.len.result = grind (arith, nat_tests) in absurd (omega (arith, h, b)),
      λ y. let w = (cyclic_circle rules s is s.names c.requires.graph.0 name y).0 in absurd (omega (arith, w, e, h, c.len.ensures.count, size)),
    )
