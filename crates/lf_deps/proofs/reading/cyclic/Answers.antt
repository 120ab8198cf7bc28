use Rattle.lf_ast.specs.Rules.{rule_trees}
use Rattle.lf_deps.proofs.reading.cyclic.Goals as goal

pub of-requires-2 : goal.of-requires-2
of-requires-2 c = (rule_trees c.args.rules.now, c.in_ok-sources.ensures)

pub cyclic_of-requires : goal.cyclic_of-requires
cyclic_of-requires c = record {
  index = (rule_trees c.args.rules.now, c.in_ok-sources.ensures);
  graph = c.in_ok-graph.ensures;
}

pub returns : goal.returns
returns c = c.cyclic_of.ensures (rule_trees c.args.rules.now) c.in_ok-sources.ensures
