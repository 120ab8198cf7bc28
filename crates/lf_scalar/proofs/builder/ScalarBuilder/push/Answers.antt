use Rattle.lf_scalar.proofs.Zipped.{zipped-append}
use Rattle.lf_scalar.proofs.builder.ScalarBuilder.push.Goals as goal

pub returns-in-Ok-clause-ok : goal.returns-in-Ok-clause-ok
returns-in-Ok-clause-ok c = rw (c.in-Ok.ensures.items, c.in_ok-push.ensures.items, ← c.self.view_is) (zipped-append _ _ _ _ c.self.invariant)
