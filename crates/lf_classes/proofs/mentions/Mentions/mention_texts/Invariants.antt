use Rattle.std.proofs.Common.{◌≡◌, ◌<◌, length, take}
use Rattle.std.specs.Prelude.{fold}
use Rattle.lf_classes.specs.views.Mentioned.{with_text_of}
use Rattle.lf_classes.proofs.mentions.Mentions.mention_texts.Given as goal

abbrev pub invariant-loop-text : goal.invariant-loop-text
invariant-loop-text l = record { seen : l.self ≡ fold (with_text_of l.place) l.initial.self (take l.text-index l.texts); within : l.place < length l.self.named }
