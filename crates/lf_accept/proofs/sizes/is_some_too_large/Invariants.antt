use Rattle.std.proofs.Common.{◌≡◌, drop}
use Rattle.std.specs.List.{list_any}
use Rattle.lf_accept.specs.Patterns.{texts_at}
use Rattle.lf_accept.specs.Sizes.{is_too_large}
use Rattle.lf_accept.proofs.sizes.is_some_too_large.Given as goal

abbrev pub invariant-loop-pattern : goal.invariant-loop-pattern
invariant-loop-pattern l = list_any is_too_large (texts_at l.patterns) ≡ list_any is_too_large (texts_at (drop l.pattern-index l.patterns))
