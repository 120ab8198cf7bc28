use Rattle.std.proofs.Common.{◌<◌, ℕ, [], get_or}
use Rattle.std.specs.List.{Contains}
use Rattle.lf_deps.proofs.reaching.have_none_common.Given as goal

abbrev pub invariant-loop-k : goal.invariant-loop-k
invariant-loop-k l = (j : ℕ) → j < l.k → Contains l.right (get_or l.left j []) → ⊥
