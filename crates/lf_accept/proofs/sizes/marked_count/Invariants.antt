use Rattle.std.proofs.Common.{◌≡◌, ◌+◌, ◌≤◌, drop}
use Rattle.lf_accept.specs.Sizes.{marked_count}
use Rattle.lf_accept.proofs.sizes.marked_count.Given as goal

abbrev pub invariant-loop-place : goal.invariant-loop-place
invariant-loop-place l = record { counted : l.count + marked_count (drop l.place l.pattern) ≡ marked_count l.pattern; few : l.count ≤ l.place }
