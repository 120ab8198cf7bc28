use Rattle.std.proofs.Common.{◌≡◌, ◌+◌, length, map, sum, take}
use Rattle.lf_classes.proofs.mentions.Mentions.classes.Given as goal

abbrev pub invariant-loop-texts : goal.invariant-loop-texts
invariant-loop-texts l = l.count ≡ sum (map (λ texts. length texts + 2) (take l.texts-index l.self.named)) + 2
