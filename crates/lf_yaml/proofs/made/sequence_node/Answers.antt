use Rattle.std.proofs.Common.{refl}
use Rattle.lf_yaml.proofs.TreeOf.{list_tree}
use Rattle.lf_yaml.proofs.made.sequence_node.Goals as goal

pub returns : goal.returns
returns c = list_tree _ c.args.items c.args.span refl
