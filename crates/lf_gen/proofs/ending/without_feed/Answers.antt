use Rattle.std.proofs.Common.{inr, refl}
use lib.Utf8.{encode}
use Rattle.lf_gen.proofs.ending.without_feed.Goals as goal

pub returns-in-None : goal.returns-in-None
unfolding encode
returns-in-None c = inr (refl, c.in-None.ensures.cases)
