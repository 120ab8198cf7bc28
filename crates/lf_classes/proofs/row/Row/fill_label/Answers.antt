use Rattle.std.proofs.Common.{true, sym, ◌∙◌, ap, arith}
use Rattle.lf_classes.specs.views.Cut.{cut, shown}
use Rattle.lf_classes.proofs.Cutting.{start_within}
use Rattle.lf_classes.proofs.Changes.{label_within}
use Rattle.lf_classes.proofs.LabelChanges.{label_filled, replaced_dead}
use Rattle.lf_classes.proofs.row.Row.fill_label.Goals as goal

pub start-from-requires : goal.start-from-requires
start-from-requires c = let r = c.self.inside in label_within r.live r.shape r.bits _ c.self.view_is c.self.invariant.total c.args.label c.requires

pub end-to-requires : goal.end-to-requires
end-to-requires c = let r = c.self.inside in label_within r.live r.shape r.bits _ c.self.view_is c.self.invariant.total c.args.label c.requires

pub fill-requires : goal.fill-requires
fill-requires c =
    let r = c.self.inside in
    let l = label_within r.live r.shape r.bits _ c.self.view_is c.self.invariant.total c.args.label c.requires in
    omega (arith, c.end-to.ensures, start_within r.shape c.args.label l, c.self.invariant.total)

pub invariant_of-self : goal.invariant_of-self
invariant_of-self c =
    let r = c.self.inside in
    let now = label_filled r.live r.shape r.bits c.fill.new.self _ c.args.label c.start-from.result c.end-to.result c.if-self.true
    c.self.view_is c.self.invariant.total (c.self.invariant.known c.if-self.true) c.requires c.start-from.ensures c.end-to.ensures
    c.fill.ensures.len c.fill.ensures.inside c.fill.ensures.below c.fill.ensures.above in
    record {
      some = c.self.invariant.some;
      total = c.fill.ensures.len ∙ c.self.invariant.total;
      known = λ e. now.0 ∙ e;
      small = c.self.invariant.small;
    }

pub returns-then-self : goal.returns-then-self
returns-then-self c =
    let r = c.self.inside in
    let now = label_filled r.live r.shape r.bits c.fill.new.self _ c.args.label c.start-from.result c.end-to.result c.if-self.true
    c.self.view_is c.self.invariant.total (c.self.invariant.known c.if-self.true) c.requires c.start-from.ensures c.end-to.ensures
    c.fill.ensures.len c.fill.ensures.inside c.fill.ensures.below c.fill.ensures.above in
    now.1

pub returns-else-self : goal.returns-else-self
returns-else-self c =
    let r = c.self.inside in
    replaced_dead r.shape r.bits _ c.args.label (λ l i. true) c.self.invariant.total (ap (λ b. shown b (cut r.shape r.bits)) (sym c.if-self.false) ∙ c.self.view_is) c.self.invariant.some
