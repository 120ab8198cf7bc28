use Rattle.std.proofs.Common.{◌≡◌, take}
use Rattle.lf_semantics.specs.Mentions.{matchers_mentions}
use Rattle.lf_classes.specs.views.Mentioned.{mentioned_all}
use Rattle.lf_classes.proofs.mentions.Mentions.mention_matchers.Given as goal

abbrev pub invariant-loop-matcher : goal.invariant-loop-matcher
invariant-loop-matcher l = l.self ≡ mentioned_all l.initial.self (matchers_mentions (take l.matcher-index l.matchers))
