use Rattle.lf_ast.specs.Rules.{rule_trees}
use Rattle.lf_deps.proofs.reading.apart.Goals as goal

pub apart_of-requires : goal.apart_of-requires
apart_of-requires c = (rule_trees c.args.rules.now, c.in_ok-sources.ensures)
