use Rattle.lf_parse.proofs.Answering.{one_reading, one_tree}
use Rattle.lf_parse.proofs.laws.one_reading.Goals as goal

pub returns : goal.returns
returns c = record { answer = one_reading; tree = one_tree }
