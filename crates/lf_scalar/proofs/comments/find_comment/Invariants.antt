use Rattle.std.proofs.Common.{◌≡◌, ◌<◌, ℕ, false}
use Rattle.lf_scalar.specs.reading.Plain.{comment_at}
use Rattle.lf_scalar.proofs.comments.find_comment.Given as goal

abbrev pub invariant-loop-i : goal.invariant-loop-i
invariant-loop-i l = (k : ℕ) → k < l.i → comment_at l.line k ≡ false
