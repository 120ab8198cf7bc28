use Rattle.std.proofs.Common.{◌≡◌, [], ◌∷◌, map, take}
use Rattle.lf_semantics.specs.Mentions.{mention}
use Rattle.lf_classes.specs.views.Mentioned.{mentioned_all}
use Rattle.lf_classes.proofs.mentions.Mentions.mention_set.Given as goal

abbrev pub invariant-loop-label : goal.invariant-loop-label
invariant-loop-label l = l.self ≡ mentioned_all l.initial.self (map (λ x. mention x.key (x.value ∷ [])) (take l.label-index l.labels))
