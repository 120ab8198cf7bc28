use Rattle.std.proofs.Common.{◌≡◌, take}
use Rattle.lf_semantics.specs.Mentions.{names_mentions}
use Rattle.lf_classes.specs.views.Mentioned.{mentioned_all}
use Rattle.lf_classes.proofs.mentions.Mentions.mention_names.Given as goal

abbrev pub invariant-loop-name : goal.invariant-loop-name
invariant-loop-name l = l.self ≡ mentioned_all l.initial.self (names_mentions (take l.name-index l.names))
