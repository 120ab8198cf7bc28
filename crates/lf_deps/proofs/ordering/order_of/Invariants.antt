use Rattle.std.proofs.Common.{◌≡◌, ◌+◌, length}
use Rattle.std.specs.List.{range_with_len}
use Rattle.lf_ast.specs.Rules.{rule_trees}
use Rattle.lf_deps.specs.views.Queue.{IsReady}
use Rattle.lf_deps.proofs.Ordered.{OrderGoesOn, left_of}
use Rattle.lf_deps.proofs.ordering.order_of.Given as goal

abbrev pub invariant-loop-place : goal.invariant-loop-place
invariant-loop-place l = record {
  ready : IsReady l.links l.queue;
  goes_on : OrderGoesOn (rule_trees l.rules) (range_with_len 0 (length (rule_trees l.rules))) l.order (left_of l.queue.taken.items (length (rule_trees l.rules)));
  count : l._place + length (left_of l.queue.taken.items (length (rule_trees l.rules))) ≡ length (rule_trees l.rules);
}
