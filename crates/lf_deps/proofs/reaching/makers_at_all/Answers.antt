use Rattle.std.proofs.Common.{◌≡◌, ◌++◌, ◌↔◌, ℕ, List, get_or, refl, sym, ◌∙◌, ap, subst, take}
use Rattle.std.specs.List.{Contains, flat_map}
use Rattle.std.proofs.lemmas.List.{take_all}
use Rattle.lf_laws.proofs.Members.{in_flat_map, of_flat_map}
use Rattle.lf_graph.proofs.Prefixes.{flat_map_next}
use Rattle.lf_deps.specs.views.Index.{makers_at}
use Rattle.lf_deps.specs.views.Sources.{Sources}
use Rattle.lf_deps.proofs.reaching.makers_at_all.Goals as goal

pub loop-place-preserved : goal.loop-place-preserved
loop-place-preserved c =
    let s : Sources = c.args.sources.now in
    let places : List ℕ = c.args.places.now in
    let at : ℕ = c.loop-place.place-index in
    c.in_ok-add_all.ensures ∙ ap (λ (l : List ℕ). l ++ c.makers_at.result.now) c.loop-place.invariant ∙ ap (λ (l : List ℕ). flat_map (makers_at s) (take at places) ++ l) c.makers_at.ensures
    ∙ sym (flat_map_next (makers_at s) places at 0 (get_or places at 0) c.loop-place-test.true refl)

pub returns : goal.returns
returns c k =
    let s : Sources = c.args.sources.now in
    let places : List ℕ = c.args.places.now in
    let found : List ℕ = c.loop-place.found in
    let all : found ≡ flat_map (makers_at s) places = c.loop-place.invariant ∙ ap (flat_map (makers_at s)) (take_all c.loop-place.place-index places c.loop-place-test.false) in
    let P : List ℕ → Type 0 = λ l. Contains l k ↔ ((place : ℕ) × Contains places place × Contains (makers_at s place) k) in
    subst P (sym all) (λ h. of_flat_map (makers_at s) places k h, λ m. in_flat_map (makers_at s) places m.0 k m.1 m.2)
