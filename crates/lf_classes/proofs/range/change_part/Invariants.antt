use Rattle.lf_classes.specs.views.Bits.{bit_of, changed}
use Rattle.lf_classes.proofs.WordLists.{IsChanged}
use Rattle.lf_classes.proofs.range.change_part.Given as goal

abbrev pub invariant-loop-number : goal.invariant-loop-number
invariant-loop-number l = IsChanged (λ k. changed l.change (bit_of l.initial.words.items k) (bit_of l.others k)) l.initial.words.items l.words.items l.from l.to l.number
