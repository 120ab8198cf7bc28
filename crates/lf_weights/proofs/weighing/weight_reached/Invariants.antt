use Rattle.std.proofs.Common.{◌≡◌, ◌*◌, ◌-◌, ◌^◌, ℕ, List, length, min}
use Rattle.lf_weights.specs.Weights.{AreReached}
use Rattle.lf_weights.proofs.Blocks.{weight_before}
use Rattle.lf_weights.proofs.weighing.weight_reached.Given as goal

abbrev pub invariant-loop-block : goal.invariant-loop-block
invariant-loop-block l = (reached : ℕ → List ℕ) → AreReached l.edges (length l.weights) reached → l.total ≡ min (weight_before l.weights reached (min (64 * l.block) (length l.weights))) (2 ^ 64 - 1)
