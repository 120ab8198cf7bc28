use Rattle.std.proofs.Common.{false, cond, get_or, take}
use Rattle.lf_semantics.specs.RowTable.{is_label_among}
use Rattle.lf_flow.specs.views.Chosen.{Chooses}
use Rattle.lf_flow.proofs.labels.Labels.put_each.Given as goal

abbrev pub invariant-loop-name : goal.invariant-loop-name
invariant-loop-name l = Chooses l.universe (λ label. cond (is_label_among l.universe (take l.name-index l.names) label) l.on (get_or l.fn.self label false)) l.self
