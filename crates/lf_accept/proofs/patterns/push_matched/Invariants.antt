use Rattle.std.proofs.Common.{◌≡◌, ◌++◌, take}
use Rattle.std.specs.List.{flat_map}
use Rattle.lf_accept.specs.Patterns.{pattern_of, texts_at}
use Rattle.lf_accept.proofs.patterns.push_matched.Given as goal

abbrev pub invariant-loop-matcher : goal.invariant-loop-matcher
invariant-loop-matcher l = texts_at l.found.items ≡ texts_at l.initial.found.items ++ flat_map pattern_of (take l.matcher-index l.matchers)
