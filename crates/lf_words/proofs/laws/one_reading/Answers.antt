use Rattle.std.proofs.Common.{refl}
use Rattle.lf_words.proofs.Asked.{one_reading}
use Rattle.lf_words.proofs.laws.one_reading.Goals as goal

pub returns : goal.returns
returns c = λ words a b first second. one_reading first second refl
