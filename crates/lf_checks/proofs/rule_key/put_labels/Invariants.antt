use Rattle.std.proofs.Common.{◌≡◌, ◌++◌, ◌∷◌, take}
use Rattle.std.specs.List.{flat_map}
use Rattle.std.specs.Prelude.{string_bytes}
use Rattle.lf_checks.specs.views.Keys.{label_code}
use Rattle.lf_checks.proofs.rule_key.put_labels.Given as goal

abbrev pub invariant-loop-label : goal.invariant-loop-label
invariant-loop-label l = string_bytes l.key ≡ string_bytes l.fn.key ++ flat_map (λ x. 49 ∷ label_code x) (take l.label-index l.labels)
