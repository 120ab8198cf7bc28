use Rattle.std.proofs.Common.{◌&&◌, [], eqb, get_or, not, sym, ◌∙◌, ap}
use Rattle.std.proofs.lemmas.Bool.Decides.{Decides-eqb}
use Rattle.lf_semantics.specs.RowTable.{has_class}
use Rattle.lf_flow.proofs.absence.has_one_text.Goals as goal

pub returns-then-counts-label-eq1 : goal.returns-then-counts-label-eq1
returns-then-counts-label-eq1 c = λ u.
    let one = (Decides-eqb (get_or c.args.counts.now c.args.label 0) 1).1 c.if-counts-label-eq1.true in
    c.has_text.ensures u ∙ ap (λ b. b && has_class u (λ class. not (eqb class 0)) (get_or c.args.row.now c.args.label [])) (sym one)
