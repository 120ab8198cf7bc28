use Rattle.std.proofs.Common.{rules}
use Rattle.lf_words.proofs.Onward.{asks_gen}
use Rattle.lf_words.proofs.asking.asks_for_gen.Goals as goal

pub returns-in-len1-clause-yes : goal.returns-in-len1-clause-yes
returns-in-len1-clause-yes c = λ some. asks_gen c.args.words.now c.size-item.result c.number.result (search rules) (search rules) (search rules) (search rules)
