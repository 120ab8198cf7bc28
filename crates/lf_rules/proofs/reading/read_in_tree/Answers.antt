use Rattle.std.proofs.Common.{sym, ◌∙◌}
use Rattle.lf_yaml.specs.Tree.{tree}
use Rattle.lf_rules.proofs.Answering.{no_faults}
use Rattle.lf_rules.proofs.reading.read_in_tree.Goals as goal

pub all_sources-requires : goal.all_sources-requires
all_sources-requires c = no_faults (tree c.args.file.now) (sym c.in_ok-judge_file.ensures ∙ c.in-None.is)
