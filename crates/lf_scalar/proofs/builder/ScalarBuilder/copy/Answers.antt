use Rattle.std.proofs.Common.{ℕ, ◌+◌, length, length-append, ap}
use Rattle.lf_scalar.proofs.Ascents.{offsets-length}
use Rattle.lf_scalar.proofs.Zipped.{zipped-copy}
use Rattle.lf_scalar.proofs.builder.ScalarBuilder.copy.Goals as goal

pub invariant_of-self-in-Ok : goal.invariant_of-self-in-Ok
invariant_of-self-in-Ok c =
    rw (c.in-Ok.ensures.items, c.in_ok-push_offsets.ensures.ok, length-append, length-append, offsets-length c.args.at (length c.args.bytes.now)) (ap (λ (n : ℕ). n + length c.args.bytes.now) c.self.invariant)

pub returns-in-Ok-clause-ok : goal.returns-in-Ok-clause-ok
returns-in-Ok-clause-ok c = rw (c.in-Ok.ensures.items, c.in_ok-push_offsets.ensures.ok, ← c.self.view_is) (zipped-copy _ _ c.args.at c.args.bytes.now c.self.invariant)
