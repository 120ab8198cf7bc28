use Rattle.std.proofs.Common.{◌≡◌, [], drop}
use Rattle.std.specs.List.{list_all}
use Rattle.lf_semantics.specs.Passing.{passes}
use Rattle.lf_classes.proofs.patterns.all_pass_empty.Given as goal

abbrev pub invariant-loop-matcher : goal.invariant-loop-matcher
invariant-loop-matcher l = list_all (λ m. passes m.op m.value []) (drop l.matcher-index l.matchers) ≡ list_all (λ m. passes m.op m.value []) l.matchers
