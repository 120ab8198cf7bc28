use Rattle.std.proofs.Common.{ℕ, eqb, not, ◌∙◌, ap}
use Rattle.lf_semantics.specs.RowTable.{has_class, set_at}
use Rattle.lf_flow.proofs.joining.may_be_present.Goals as goal

pub returns : goal.returns
returns c =
    let u = c.args.universe.now in
    c.has_text.ensures u ∙ ap (λ (n : ℕ). has_class u (λ class. not (eqb class 0)) (set_at u c.args.row.now n)) c.label_of.ensures.number
