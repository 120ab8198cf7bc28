use Rattle.lf_yaml.proofs.FlowPlaces.{in-behind, in-from}
use Rattle.lf_yaml.proofs.parts.behind.Goals as goal

pub returns-clause-place : goal.returns-clause-place
returns-clause-place c = λ bytes is cut. in-behind bytes c.args.part.text.now c.past.result.now c.args.part.at c.args.next c.args.len is c.requires.within c.past.ensures cut

pub returns-clause-from : goal.returns-clause-from
returns-clause-from c = λ bytes utf8 is b. in-from bytes c.args.part.text.now c.past.result.now c.args.part.at c.args.next c.args.len is c.requires.within c.past.ensures utf8 b
