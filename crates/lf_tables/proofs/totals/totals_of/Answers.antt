use Rattle.std.proofs.Common.{arith}
use Rattle.std.proofs.lemmas.List.{length-map}
use Rattle.lf_ast.specs.Rules.{rule_tree, rule_trees}
use Rattle.lf_deps.proofs.LookedUp.{selected_count}
use Rattle.lf_tables.proofs.totals.totals_of.Goals as goal

pub of-requires-2 : goal.of-requires-2
of-requires-2 c = (rule_trees c.args.rules.now, c.in_ok-sources.ensures)

pub reached_together-requires : goal.reached_together-requires
reached_together-requires c = record {
  index = (rule_trees c.args.rules.now, c.in_ok-sources.ensures);
  graph = c.in_ok-graph.ensures;
  count = omega (arith, selected_count (rule_trees c.args.rules.now) c.in_ok-sources.sources c.in_ok-sources.ensures, length-map c.args.rules.now rule_tree);
}

pub cyclic_together-requires : goal.cyclic_together-requires
cyclic_together-requires c = record {
  index = (rule_trees c.args.rules.now, c.in_ok-sources.ensures);
  graph = c.in_ok-graph.ensures;
}
