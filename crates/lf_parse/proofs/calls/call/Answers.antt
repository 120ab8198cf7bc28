use Rattle.std.proofs.Common.{refl}
use Rattle.lf_ast.proofs.TreeOf.{tree_call}
use Rattle.lf_parse.proofs.calls.call.Goals as goal

pub returns : goal.returns
returns c = tree_call _ c.args.name c.args.args c.args.span refl
