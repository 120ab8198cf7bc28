use Rattle.std.proofs.Common.{rules}
use Rattle.lf_ast.proofs.TreeOf.{tree_aggregate, tree_call}
use Rattle.lf_classes.proofs.FaultsFound.{arguments_folded}
use Rattle.lf_classes.proofs.checking.told.Goals as goal

pub returns-in_ok-own-in-Call : goal.returns-in_ok-own-in-Call
returns-in_ok-own-in-Call c = search (rules, tree_call _ _ _ _ c.in-Call.is, arguments_folded)

pub returns-in-Aggregate : goal.returns-in-Aggregate
returns-in-Aggregate c = search (rules, tree_aggregate _ _ _ _ _ c.in-Aggregate.is, arguments_folded)
