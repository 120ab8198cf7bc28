use Rattle.std.proofs.Common.{refl}
use Rattle.lf_ast.proofs.TreeOf.{tree_aggregate}
use Rattle.lf_parse.proofs.calls.aggregation.Goals as goal

pub returns : goal.returns
returns c = tree_aggregate _ c.args.op c.args.grouping c.args.args c.args.span refl
