use Rattle.std.proofs.Common.{get_or, map, ap, ◌∙◌}
use Rattle.std.proofs.lemmas.List.Elements.{All-map, All-same}
use Rattle.lf_ast.specs.Tree.{tree, nodes}
use Rattle.lf_semantics.specs.ClassRows.{HasShape}
use Rattle.lf_semantics.specs.RowTable.{row_of}
use Rattle.lf_semantics.proofs.NormalizedRows.{row_is}
use Rattle.lf_candidates.specs.views.Packed.{packed}
use Rattle.lf_built.proofs.PartsTold.{each_packed, parts_told}
use Rattle.lf_built.proofs.part_rows.PartRows.of.Goals as goal

pub packed_rows-requires-clause-shapes : goal.packed_rows-requires-clause-shapes
packed_rows-requires-clause-shapes c =
    let u = c.args.universe.now in
    let env = c.requires.0 in
    let all = nodes (tree c.args.expr.now) in
    All-same (HasShape u) _ _ c.requires.2
    (All-map (HasShape u) (row_of u env) all (λ k d less. (row_is u c.labels-labels.ensures.within.listing env c.requires.1 (get_or all k d)).0))

pub returns : goal.returns
returns c = λ env is rows.
    let u = c.args.universe.now in
    let all = nodes (tree c.args.expr.now) in
    parts_told u env c.args.forks.now all c.in_ok-rows.rows.items c.in_ok-sizes.sizes.items c.in_ok-held.held.items
    (c.in_ok-rows.ensures ∙ ap (map (packed u)) rows ∙ each_packed u env all) c.in_ok-sizes.ensures c.in_ok-held.ensures
