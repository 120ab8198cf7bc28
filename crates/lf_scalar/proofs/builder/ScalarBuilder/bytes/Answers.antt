use Rattle.lf_scalar.proofs.Zipped.{zipped-bytes}
use Rattle.lf_scalar.proofs.builder.ScalarBuilder.bytes.Goals as goal

pub returns : goal.returns
returns c = rw (c.as_slice.ensures.value, ← c.self.view_is) (zipped-bytes _ _ c.self.invariant)
