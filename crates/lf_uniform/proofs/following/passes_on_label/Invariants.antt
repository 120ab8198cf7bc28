use Rattle.std.proofs.Common.{◌≡◌, true, take}
use Rattle.lf_trials.specs.Follow.{passes_on_label}
use Rattle.lf_uniform.proofs.following.passes_on_label.Given as goal

abbrev pub invariant-loop-matcher : goal.invariant-loop-matcher
invariant-loop-matcher l = passes_on_label l.label (take l.matcher-index l.matchers) l.text ≡ true
