use Rattle.lf_accept.proofs.Takings.{one_count}
use Rattle.lf_accept.proofs.accepting.one_count.Goals as goal

pub returns : goal.returns
returns c = one_count
