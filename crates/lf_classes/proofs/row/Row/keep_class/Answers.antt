use Rattle.std.proofs.Common.{eqb, sym, ◌∙◌, ap}
use Rattle.lf_semantics.specs.ClassRows.{emptied}
use Rattle.lf_classes.specs.views.Cut.{cut, shown}
use Rattle.lf_classes.proofs.Changes.{live_view}
use Rattle.lf_classes.proofs.LabelChanges.{class_alone, class_lacked, narrowed_dead}
use Rattle.lf_classes.proofs.row.Row.keep_class.Goals as goal

pub returns-then-has : goal.returns-then-has
returns-then-has c =
    let r = c.self.inside in
    let live = live_view r.live r.shape r.bits _ c.self.view_is c.self.invariant.total c.self.invariant.some c.self.invariant.known ∙ c.if-self.true in
    c.set_class.ensures ∙ class_alone c.args.self.now c.args.label c.args.class live (sym c.has.ensures ∙ c.if-has.true)

pub returns-else-has : goal.returns-else-has
returns-else-has c =
    let r = c.self.inside in
    ap emptied (ap (λ b. shown b (cut r.shape r.bits)) (sym c.if-self.true) ∙ c.self.view_is) ∙ class_lacked c.args.self.now c.args.label c.args.class c.requires.label (sym c.has.ensures ∙ c.if-has.false)

pub returns-else-self : goal.returns-else-self
returns-else-self c =
    let r = c.self.inside in
    narrowed_dead r.shape r.bits _ c.args.label (λ l i. eqb i c.args.class) c.self.invariant.total (ap (λ b. shown b (cut r.shape r.bits)) (sym c.if-self.false) ∙ c.self.view_is) c.self.invariant.some
