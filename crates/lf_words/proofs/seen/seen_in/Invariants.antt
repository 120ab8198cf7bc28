use Rattle.std.proofs.Common.{drop}
use Rattle.lf_words.specs.views.Commands.{texts_of}
use Rattle.lf_words.specs.views.Asking.{Stands}
use Rattle.lf_words.proofs.seen.seen_in.Given as goal

abbrev pub invariant-loop-word : goal.invariant-loop-word
invariant-loop-word l = Stands (texts_of l.words) l.seen (texts_of (drop l.word-index l.words))
