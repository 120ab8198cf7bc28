use Rattle.std.proofs.Common.{arith}
use Rattle.lf_ast.specs.Rules.{rule_trees}
use Rattle.lf_deps.proofs.LookedUp.{selected_count}
use Rattle.lf_deps.proofs.RuleTrees.{trees_count}
use Rattle.lf_deps.proofs.reading.reach.Goals as goal

pub of-requires-2 : goal.of-requires-2
of-requires-2 c = (rule_trees c.args.rules.now, c.in_ok-sources.ensures)

pub reach_of-requires : goal.reach_of-requires
reach_of-requires c = record {
  index = (rule_trees c.args.rules.now, c.in_ok-sources.ensures);
  graph = c.in_ok-graph.ensures;
  rule = let size = trees_count c.args.rules.now in omega (arith, size, selected_count (rule_trees c.args.rules.now) c.in_ok-sources.sources c.in_ok-sources.ensures);
}

pub returns-clause-members : goal.returns-clause-members
returns-clause-members c of is k = c.reach_of.ensures.members (rule_trees c.args.rules.now) c.in_ok-sources.ensures of is k
