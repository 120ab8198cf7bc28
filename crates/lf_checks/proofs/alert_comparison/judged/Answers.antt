use Rattle.std.proofs.Common.{rules}
use Rattle.lf_ast.proofs.TreeOf.{tree_aggregate, tree_call}
use Rattle.lf_checks.proofs.Conditions.{any_counts}
use Rattle.lf_checks.proofs.alert_comparison.judged.Goals as goal

pub returns-in-Call : goal.returns-in-Call
returns-in-Call c = search (rules, tree_call _ _ _ _ c.in-Call.is, any_counts)

pub returns-in-Aggregate : goal.returns-in-Aggregate
returns-in-Aggregate c = search (rules, tree_aggregate _ _ _ _ _ c.in-Aggregate.is, any_counts)
