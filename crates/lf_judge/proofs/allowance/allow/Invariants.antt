use Rattle.std.proofs.Common.{◌≡◌, ◌+◌, take}
use Rattle.std.specs.List.{sum_by}
use Rattle.lf_judge.specs.Allowance.{most_in_all}
use Rattle.lf_judge.specs.views.Accepting.{taken_in}
use Rattle.lf_judge.proofs.allowance.allow.Given as goal

abbrev pub invariant-loop-file : goal.invariant-loop-file
invariant-loop-file l = most_in_all ≡ sum_by taken_in (take l.file-index l.files) + l.left
