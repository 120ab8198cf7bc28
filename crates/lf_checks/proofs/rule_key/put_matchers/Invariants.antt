use Rattle.std.proofs.Common.{◌≡◌, ◌++◌, ◌∷◌, take}
use Rattle.std.specs.List.{flat_map}
use Rattle.std.specs.Prelude.{string_bytes}
use Rattle.lf_checks.specs.views.Keys.{matcher_code}
use Rattle.lf_checks.proofs.rule_key.put_matchers.Given as goal

abbrev pub invariant-loop-matcher : goal.invariant-loop-matcher
invariant-loop-matcher l = string_bytes l.key ≡ string_bytes l.fn.key ++ flat_map (λ x. 49 ∷ matcher_code x) (take l.matcher-index l.matchers)
