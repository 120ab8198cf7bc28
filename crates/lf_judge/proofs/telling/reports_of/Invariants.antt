use Rattle.std.proofs.Common.{◌≡◌, ◌+◌, length, reverse, true}
use Rattle.lf_judge.specs.views.AtHand.{TellsRuleAt}
use Rattle.lf_judge.proofs.Numbered.{EachFrom}
use Rattle.lf_judge.proofs.Waiting.{Waits}
use Rattle.lf_judge.proofs.telling.reports_of.Given as goal

abbrev pub invariant-loop-next : goal.invariant-loop-next
invariant-loop-next l = record {
  count : length l.told + length l.taken ≡ length l.hand.rules.now;
  told : EachFrom (TellsRuleAt l.hand true) 0 l.told;
  left : EachFrom (Waits l.hand l.firsts) (length l.told) (reverse l.taken);
}

abbrev pub decreases-loop-next : goal.decreases-loop-next
decreases-loop-next l = length l.taken
