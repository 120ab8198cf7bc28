use Rattle.std.proofs.Common.{◌++◌, [], ◌∷◌, ℕ, List, map, sym, ◌∙◌, ap, subst}
use Rattle.std.specs.List.{Contains, range_with_len}
use Rattle.std.proofs.lemmas.List.{map-append}
use Rattle.lf_deps.specs.views.Index.{makers_at}
use Rattle.lf_deps.specs.views.Names.{nodes_by}
use Rattle.lf_deps.proofs.Ascending.{range_more}
use Rattle.lf_deps.proofs.NamePaths.{all_recorded, makers_are_rules}
use Rattle.lf_deps.proofs.name_graph.edges_of.Goals as goal

pub nodes_by-requires : goal.nodes_by-requires
nodes_by-requires c k there =
    let s = c.args.sources.now in
    let P : List ℕ → Type 0 = λ l. Contains l k in
    makers_are_rules s c.requires s.names (all_recorded s.names) c.loop-place.place k (subst P c.makers_at.ensures there)

pub loop-place-preserved : goal.loop-place-preserved
loop-place-preserved c =
    let s = c.args.sources.now in
    let at : ℕ = c.loop-place.place in
    let by : List ℕ → List ℕ = nodes_by c.args.names.now s in
    let f : ℕ → List ℕ = λ k. by (makers_at s k) in
    c.in_ok-push.ensures.ok ∙ ap (λ (l : List ℕ). c.loop-place.edges ++ l ∷ []) (c.in_ok-nodes_by.ensures ∙ ap by c.makers_at.ensures) ∙ ap (λ (l : List (List ℕ)). l ++ f at ∷ []) c.loop-place.invariant
    ∙ sym (map-append f (range_with_len 0 at) (at ∷ [])) ∙ ap (map f) (sym (range_more at))
