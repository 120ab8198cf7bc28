use Rattle.lf_words.proofs.Onward.{asks_lint, not_lint}
use Rattle.lf_words.proofs.asking.asks_for_lint.Goals as goal

pub returns-in-Some-clause-yes : goal.returns-in-Some-clause-yes
returns-in-Some-clause-yes c = λ is. asks_lint c.in-Some.ensures.some (c.is_whole.ensures.yes is)

pub returns-in-Some-clause-no : goal.returns-in-Some-clause-no
returns-in-Some-clause-no c = λ is. not_lint c.in-Some.ensures.some (c.is_whole.ensures.no is)
