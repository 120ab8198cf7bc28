use Rattle.std.proofs.Common.{◌≡◌, take}
use Rattle.std.specs.List.{Contains, flat_map}
use Rattle.lf_ast.specs.Labels.{Labels}
use Rattle.lf_semantics.specs.Texts.{HasTexts}
use Rattle.lf_strict.specs.views.Paired.{with_only}
use Rattle.lf_strict.proofs.partners.each_with.Given as goal

abbrev pub invariant-loop-sample : goal.invariant-loop-sample
invariant-loop-sample l = (l.made.items ≡ flat_map (with_only l.op l.matching l.one) (take l.sample-index l.many)) × ((s : Labels) → Contains (take l.sample-index l.many) s → HasTexts s)
