use Rattle.std.proofs.Common.{arith}
use Rattle.lf_classes.proofs.RowWords.{same_bits, words_hold}
use Rattle.lf_classes.proofs.bits.Bits.from_words.Goals as goal

pub returns : goal.returns
returns c = same_bits c.in_ok-words.words.items c.args.words.now c.args.len (omega (arith, words_hold c.args.len, c.requires.filled)) c.in_ok-words.ensures.words
