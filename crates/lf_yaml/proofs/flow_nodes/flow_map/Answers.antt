use Rattle.std.proofs.Common.{◌≡◌, ◌+◌, [], suc, length, rules, arith, ap}
use Rattle.lf_yaml.specs.Tree.{mapping}
use Rattle.lf_yaml.specs.reading.Trees.{as_tree, mapping_in}
use Rattle.lf_yaml.proofs.flow_nodes.flow_map.Goals as goal

pub returns-clause-gives : goal.returns-clause-gives
returns-clause-gives c =
    let bytes = c.args.source.bytes.now in
    let z : c.args.row.at + 1 ≡ suc c.args.row.at = omega arith in
    let e = c.closed.ensures.gives (as_tree mapping (mapping_in bytes (suc (length bytes)) [] (suc c.args.row.at))) (c.new.ensures, ap (λ n. as_tree mapping (mapping_in bytes (suc (length bytes)) [] n)) z) in
    search (rules, e)
