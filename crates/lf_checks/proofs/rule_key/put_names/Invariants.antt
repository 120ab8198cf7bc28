use Rattle.std.proofs.Common.{◌≡◌, ◌++◌, ◌∷◌, take}
use Rattle.std.specs.List.{flat_map}
use Rattle.std.specs.Prelude.{string_bytes}
use Rattle.lf_checks.specs.views.Keys.{name_code}
use Rattle.lf_checks.proofs.rule_key.put_names.Given as goal

abbrev pub invariant-loop-name : goal.invariant-loop-name
invariant-loop-name l = string_bytes l.key ≡ string_bytes l.fn.key ++ flat_map (λ x. 49 ∷ name_code x) (take l.name-index l.names)
