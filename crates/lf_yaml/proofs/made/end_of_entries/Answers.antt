use Rattle.std.proofs.Common.{◌∙◌}
use Rattle.lf_yaml.specs.Tree.{pair}
use Rattle.lf_yaml.proofs.Lasts.{last-entry}
use Rattle.lf_yaml.proofs.made.end_of_entries.Goals as goal

pub returns-in-Some : goal.returns-in-Some
returns-in-Some c = c.end_of.ensures ∙ last-entry pair c.args.none c.args.entries.now c.in-Some.entry.now c.in-Some.ensures.value
