use Rattle.std.proofs.Common.{ap}
use Rattle.lf_yaml.specs.reading.Trees.{opens_by, opens_quote}
use Rattle.lf_yaml.specs.views.Shown.{shown}
use Rattle.lf_yaml.proofs.entry.opens_quote.Goals as goal

pub returns-in-None : goal.returns-in-None
unfolding opens_quote
returns-in-None c = let s = shown c.args.row in ap (opens_by s.rest) (c.in-None.ensures.kind c.args.row.at)
