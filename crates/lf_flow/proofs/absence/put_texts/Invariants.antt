use Rattle.std.proofs.Common.{◌≡◌, true, take}
use Rattle.lf_flow.specs.views.Absence.{AreCounts, is_class_sought}
use Rattle.lf_flow.proofs.MadeRows.{made}
use Rattle.lf_flow.proofs.absence.put_texts.Given as goal

abbrev pub invariant-loop-matcher : goal.invariant-loop-matcher
invariant-loop-matcher l = record {
  row : l.row ≡ made l.universe (λ label. is_class_sought l.universe label true (take l.matcher-index l.matchers));
  counts : AreCounts l.universe (take l.matcher-index l.matchers) l.counts.items;
}
