use Rattle.std.proofs.Common.{sym, ◌∙◌, ap}
use Rattle.lf_semantics.specs.ClassRows.{holds}
use Rattle.lf_classes.specs.views.Cut.{cut, shown}
use Rattle.lf_classes.proofs.Changes.{label_within, same_total}
use Rattle.lf_classes.proofs.LabelChanges.{empty_holds, replaced_dead, replaced_out, taken_label}
use Rattle.lf_classes.proofs.row.Row.take_label.Goals as goal

pub start-from-requires : goal.start-from-requires
start-from-requires c = let r = c.self.inside in label_within r.live r.shape r.bits _ c.self.view_is c.self.invariant.total c.args.label c.requires.label

pub end-to-requires : goal.end-to-requires
end-to-requires c = let r = c.self.inside in label_within r.live r.shape r.bits _ c.self.view_is c.self.invariant.total c.args.label c.requires.label

pub change-requires-clause-same : goal.change-requires-clause-same
change-requires-clause-same c =
    let r = c.self.inside in
    let o = c.other.inside in
    same_total r.live o.live r.shape o.shape r.bits o.bits _ _ c.self.view_is c.other.view_is c.self.invariant.total c.other.invariant.total c.requires.shape

pub invariant_of-self : goal.invariant_of-self
invariant_of-self c =
    let r = c.self.inside in
    let o = c.other.inside in
    let now = taken_label r.live o.live r.shape o.shape r.bits o.bits _ _ c.self.view_is c.other.view_is c.self.invariant.total c.other.invariant.total c.requires.shape c.args.label c.start-from.result c.end-to.result c.requires.label c.start-from.ensures c.end-to.ensures c.if-self.true
    c.if-other.true r.live c.change.new.self (c.self.invariant.known c.if-self.true) c.change.ensures.len c.change.ensures.below c.change.ensures.above
    (c.other.invariant.known c.if-other.true) c.if-self.true c.change.ensures.inside in
    record {
      some = c.self.invariant.some;
      total = c.change.ensures.len ∙ c.self.invariant.total;
      known = λ e. now.0 ∙ e;
      small = c.self.invariant.small;
    }

pub returns-then-other : goal.returns-then-other
returns-then-other c =
    let r = c.self.inside in
    let o = c.other.inside in
    let now = taken_label r.live o.live r.shape o.shape r.bits o.bits _ _ c.self.view_is c.other.view_is c.self.invariant.total c.other.invariant.total c.requires.shape c.args.label c.start-from.result c.end-to.result c.requires.label c.start-from.ensures c.end-to.ensures c.if-self.true
    c.if-other.true r.live c.change.new.self (c.self.invariant.known c.if-self.true) c.change.ensures.len c.change.ensures.below c.change.ensures.above
    (c.other.invariant.known c.if-other.true) c.if-self.true c.change.ensures.inside in
    now.1

pub returns-else-other : goal.returns-else-other
returns-else-other c =
    let r = c.self.inside in
    let o = c.other.inside in
    let empty = empty_holds o.shape o.bits _ (ap (λ b. shown b (cut o.shape o.bits)) (sym c.if-other.false) ∙ c.other.view_is) in
    replaced_out r.shape r.bits _ c.args.label (holds c.args.other.now) c.self.invariant.total (ap (λ b. shown b (cut r.shape r.bits)) (sym c.if-self.true) ∙ c.self.view_is) (c.self.invariant.known c.if-self.true) c.requires.label (empty c.args.label)

pub returns-else-self : goal.returns-else-self
returns-else-self c =
    let r = c.self.inside in
    replaced_dead r.shape r.bits _ c.args.label (holds c.args.other.now) c.self.invariant.total (ap (λ b. shown b (cut r.shape r.bits)) (sym c.if-self.false) ∙ c.self.view_is) c.self.invariant.some
