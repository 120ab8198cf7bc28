use Rattle.lf_classes.proofs.WordLists.{IsChanged}
use Rattle.lf_classes.proofs.range.fill_part.Given as goal

abbrev pub invariant-loop-number : goal.invariant-loop-number
invariant-loop-number l = IsChanged (λ k. l.on) l.initial.words.items l.words.items l.from l.to l.number
