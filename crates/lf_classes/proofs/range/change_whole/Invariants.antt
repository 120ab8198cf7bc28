use Rattle.std.proofs.Common.{◌*◌, ◌≤◌}
use Rattle.lf_classes.specs.views.Bits.{bit_of, changed}
use Rattle.lf_classes.proofs.WordLists.{IsChanged}
use Rattle.lf_classes.proofs.range.change_whole.Given as goal

abbrev pub invariant-loop-number : goal.invariant-loop-number
invariant-loop-number l = record {
  low : l.first ≤ l.number;
  changed : IsChanged (λ k. changed l.change (bit_of l.initial.words k) (bit_of l.others k)) l.initial.words l.words (64 * l.first) (64 * l.last) l.number;
}
