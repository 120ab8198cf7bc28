use Rattle.std.proofs.Common.{List}
use Rattle.lf_ast.specs.Rules.{RuleTree, rule_trees}
use Rattle.lf_deps.specs.views.Names.{IsGraphOfRules}
use Rattle.lf_open.proofs.read_graph.ReadGraph.of.Goals as goal

pub with_names-requires : goal.with_names-requires
with_names-requires c = record { index = (rule_trees c.args.rules.now, c.requires); names = c.in_ok-names.ensures.begin }

pub read_by-requires : goal.read_by-requires
read_by-requires c = (rule_trees c.args.rules.now, (c.args.sources.now, c.requires, c.in_ok-graph.ensures))

pub returns : goal.returns
returns c =
    let rules : List RuleTree = rule_trees c.args.rules.now in
    let graph : IsGraphOfRules rules c.in_ok-names.names c.in_ok-graph.graph = (c.args.sources.now, c.requires, c.in_ok-graph.ensures) in
    record { names = c.in_ok-names.ensures.have; graph = graph; all = c.in_ok-all.ensures rules graph }
