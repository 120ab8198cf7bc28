use Rattle.std.proofs.Common.{◌≡◌}
use Rattle.lf_flow.specs.views.Budget.{bytes_before}
use Rattle.lf_flow.proofs.patterns.text_bytes.Given as goal

abbrev pub invariant-loop-class : goal.invariant-loop-class
invariant-loop-class l = l.bytes ≡ bytes_before l.universe l.label l.class
