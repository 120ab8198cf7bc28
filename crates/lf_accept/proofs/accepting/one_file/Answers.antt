use Rattle.lf_accept.proofs.OneFile.{one_file}
use Rattle.lf_accept.proofs.accepting.one_file.Goals as goal

pub returns : goal.returns
returns c = one_file
