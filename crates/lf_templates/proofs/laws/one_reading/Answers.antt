use Rattle.lf_templates.proofs.Deciding.{one_list}
use Rattle.lf_templates.proofs.laws.one_reading.Goals as goal

pub returns : goal.returns
returns c = one_list
