use Rattle.std.proofs.Common.{◌∙◌, ap}
use Rattle.lf_yaml.specs.reading.Trees.{entry_by}
use Rattle.lf_yaml.specs.views.Shown.{shown}
use Rattle.lf_yaml.proofs.entry.head_of.Goals as goal

pub returns-in-Some-clause-head : goal.returns-in-Some-clause-head
returns-in-Some-clause-head c = c.quoted_entry.ensures.head ∙ ap (entry_by (shown c.args.row)) (c.in-Some.ensures.kind c.args.row.at)

pub returns-in-None-clause-head : goal.returns-in-None-clause-head
returns-in-None-clause-head c = c.bare_entry.ensures.head ∙ ap (entry_by (shown c.args.row)) (c.in-None.ensures.kind c.args.row.at)
