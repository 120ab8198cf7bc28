use Rattle.std.proofs.Common.{◌≡◌, take}
use Rattle.std.specs.List.{Contains, filter}
use Rattle.lf_ast.specs.Labels.{Labels}
use Rattle.lf_semantics.specs.Texts.{HasTexts}
use Rattle.lf_strict.specs.views.Signed.{is_signed}
use Rattle.lf_strict.proofs.signature.with_signature.Given as goal

abbrev pub invariant-loop-sample : goal.invariant-loop-sample
invariant-loop-sample l =
    (l.kept.items ≡ filter (is_signed l.matching l.signatures l.wanted) (take l.sample-index l.samples))
    × ((s : Labels) → Contains (take l.sample-index l.samples) s → HasTexts s)
