use Rattle.std.proofs.Common.{◌≡◌, take}
use Rattle.lf_semantics.specs.ClassRows.{narrowed}
use Rattle.lf_semantics.specs.RowTable.{passes_matchers}
use Rattle.lf_flow.proofs.selecting.select.Given as goal

abbrev pub invariant-loop-matcher : goal.invariant-loop-matcher
invariant-loop-matcher l = l.row ≡ narrowed (passes_matchers l.universe (take l.matcher-index l.matchers)) l.initial.row
