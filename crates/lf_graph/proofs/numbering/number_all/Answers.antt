use Rattle.std.proofs.Common.{◌∙◌, ap, map, arith}
use Rattle.lf_graph.specs.views.Search.{number_in}
use Rattle.lf_graph.proofs.Numbered.{are_numbers}
use Rattle.lf_graph.proofs.numbering.number_all.Goals as goal

pub returns : goal.returns
returns c =
    are_numbers c.args.edges.now c.loop-node.search c.requires c.loop-node.invariant.0 c.loop-node.invariant.1
    (λ u h. c.loop-node.invariant.2 u (omega (arith, h, c.loop-node-test.false, c.len-node-end.ensures)))
    c.in_ok-of.of.items
    (c.in_ok-of.ensures ∙ ap (map number_in) c.as_slice.ensures.value)
