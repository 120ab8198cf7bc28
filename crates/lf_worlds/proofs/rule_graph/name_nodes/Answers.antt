use Rattle.std.proofs.Common.{◌++◌, ◌+◌, [], ◌∷◌, List, ℕ, map, ◌∙◌, ap, sym}
use Rattle.std.specs.List.{range_with_len}
use Rattle.std.proofs.lemmas.List.{map_push}
use Rattle.lf_deps.proofs.Ascending.{range_more}
use Rattle.lf_worlds.proofs.rule_graph.name_nodes.Goals as goal

pub loop-place-preserved : goal.loop-place-preserved
loop-place-preserved c =
    let shift : ℕ → ℕ = λ p. c.args.first + p in
    c.in_ok-push.ensures.ok
    ∙ ap (λ (l : List ℕ). l ++ (c.args.first + c.loop-place.place) ∷ []) c.loop-place.invariant
    ∙ sym (ap (map shift) (range_more c.loop-place.place) ∙ map_push shift (range_with_len 0 c.loop-place.place) c.loop-place.place)
