use Rattle.std.proofs.Common.{◌≡◌, map, take}
use Rattle.lf_checks.specs.views.Shown.{all_shown}
use Rattle.lf_judge.specs.Judged.{finding_in, finding_told}
use Rattle.lf_judge.specs.views.AtHand.{files_at, rules_of_hand}
use Rattle.lf_judge.proofs.findings.each_told.Given as goal

abbrev pub invariant-loop-finding : goal.invariant-loop-finding
invariant-loop-finding l = map finding_in l.told ≡ map finding_told (all_shown (files_at l.hand) (rules_of_hand l.hand) (take l.finding-index l.found))
