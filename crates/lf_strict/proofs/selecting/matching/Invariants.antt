use Rattle.std.proofs.Common.{◌≡◌, take}
use Rattle.std.specs.List.{filter}
use Rattle.lf_pattern.specs.Matching.{matches}
use Rattle.lf_semantics.specs.Texts.{value_of}
use Rattle.lf_strict.specs.views.Selected.{as_wanted}
use Rattle.lf_strict.proofs.selecting.matching.Given as goal

abbrev pub invariant-loop-sample : goal.invariant-loop-sample
invariant-loop-sample l = (l.pattern ≡ l.initial.pattern) × (l.kept.items ≡ filter (λ s. as_wanted l.wanted (matches l.initial.pattern (value_of s l.label))) (take l.sample-index l.samples))
