use Rattle.std.proofs.Common.{◌≡◌, map, take}
use Rattle.lf_words.proofs.lint.copies.Given as goal

abbrev pub invariant-loop-word : goal.invariant-loop-word
invariant-loop-word l = l.all ≡ map (λ w. w.now) (take l.word-index l.words)
