use Rattle.std.proofs.Common.{rules}
use Rattle.lf_ast.proofs.Walks.{values_list}
use Rattle.lf_ast.proofs.TreeOf.{count_trees, tree_aggregate, tree_call}
use Rattle.lf_ast.proofs.typing.judge.Goals as goal

pub judge_call-requires : goal.judge_call-requires
judge_call-requires c = search (rules, tree_call _ _ _ _ c.in-Call.is, values_list)

pub returns-in-Call : goal.returns-in-Call
returns-in-Call c = search (rules, tree_call _ _ _ _ c.in-Call.is, count_trees)

pub judge_call-requires-in-Aggregate : goal.judge_call-requires-in-Aggregate
judge_call-requires-in-Aggregate c = search (rules, tree_aggregate _ _ _ _ _ c.in-Aggregate.is, values_list)

pub returns-in-Aggregate : goal.returns-in-Aggregate
returns-in-Aggregate c = search (rules, tree_aggregate _ _ _ _ _ c.in-Aggregate.is, count_trees)
