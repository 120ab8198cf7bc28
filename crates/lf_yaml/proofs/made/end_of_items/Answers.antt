use Rattle.std.proofs.Common.{◌∙◌}
use Rattle.lf_yaml.specs.Tree.{tree}
use Rattle.lf_yaml.proofs.Lasts.{last-item}
use Rattle.lf_yaml.proofs.made.end_of_items.Goals as goal

pub returns-in-Some : goal.returns-in-Some
returns-in-Some c = c.end_of.ensures ∙ last-item tree c.args.none c.args.items.now c.in-Some.item.now c.in-Some.ensures.value
