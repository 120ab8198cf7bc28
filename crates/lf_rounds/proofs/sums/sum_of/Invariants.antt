use Rattle.std.proofs.Common.{◌≡◌, ◌≤◌, ◌*◌, take}
use Rattle.std.specs.List.{sum}
use Rattle.lf_rounds.proofs.sums.sum_of.Given as goal

abbrev pub invariant-loop-word : goal.invariant-loop-word
invariant-loop-word l = (l.all ≡ sum (take l.word-index l.words)) × (l.all ≤ l.word-index * 18446744073709551615)
