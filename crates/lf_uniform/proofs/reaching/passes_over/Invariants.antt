use Rattle.std.proofs.Common.{◌≡◌}
use Rattle.std.specs.List.{flat_map, range_with_len}
use Rattle.lf_uniform.proofs.reaching.passes_over.Given as goal

abbrev pub invariant-loop-pass : goal.invariant-loop-pass
invariant-loop-pass l = l.steps.items ≡ flat_map (λ pass. l.reach) (range_with_len 0 l._pass)
