use Rattle.std.proofs.Common.{refl}
use Rattle.lf_yaml.proofs.TreeOf.{map_tree}
use Rattle.lf_yaml.proofs.made.mapping_node.Goals as goal

pub returns : goal.returns
returns c = map_tree _ c.args.entries c.args.span refl
