use Rattle.lf_scalar.proofs.Zipped.{zipped-take}
use Rattle.lf_scalar.proofs.builder.ScalarBuilder.truncate.Goals as goal

pub returns : goal.returns
returns c = rw (c.truncate.ensures.items, c.truncate-2.ensures.items, ← c.self.view_is) (zipped-take _ _ _)
