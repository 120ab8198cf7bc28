use Rattle.std.proofs.Common.{◌≡◌, [], map, take}
use Rattle.lf_ast.specs.Arguments.{text_of}
use Rattle.lf_ast.specs.Tree.{tree}
use Rattle.lf_semantics.specs.Mentions.{mention}
use Rattle.lf_classes.specs.views.Mentioned.{mentioned_all}
use Rattle.lf_classes.proofs.mentions.Mentions.mention_sources.Given as goal

abbrev pub invariant-loop-source : goal.invariant-loop-source
invariant-loop-source l = l.self ≡ mentioned_all l.initial.self (map (λ source. mention (text_of (tree source)) []) (take l.source-index l.sources))
