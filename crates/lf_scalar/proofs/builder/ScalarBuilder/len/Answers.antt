use Rattle.std.proofs.Common.{sym}
use Rattle.lf_scalar.proofs.Zipped.{zipped-length}
use Rattle.lf_scalar.proofs.builder.ScalarBuilder.len.Goals as goal

pub returns : goal.returns
returns c = rw (c.as_slice.ensures.value, ← c.self.view_is) (sym (zipped-length _ _ c.self.invariant))
