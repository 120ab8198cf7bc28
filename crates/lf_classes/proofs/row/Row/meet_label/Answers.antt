use Rattle.std.proofs.Common.{sym, ◌∙◌, ap}
use Rattle.lf_semantics.specs.ClassRows.{holds}
use Rattle.lf_classes.specs.views.Cut.{cut, shown}
use Rattle.lf_classes.proofs.Changes.{label_within, same_total}
use Rattle.lf_classes.proofs.LabelChanges.{empty_holds, met_label, narrowed_dead, narrowed_out}
use Rattle.lf_classes.proofs.row.Row.meet_label.Goals as goal

pub start-from-requires : goal.start-from-requires
start-from-requires c = let r = c.self.inside in label_within r.live r.shape r.bits _ c.self.view_is c.self.invariant.total c.args.label c.requires.label

pub end-to-requires : goal.end-to-requires
end-to-requires c = let r = c.self.inside in label_within r.live r.shape r.bits _ c.self.view_is c.self.invariant.total c.args.label c.requires.label

pub change-requires-clause-same : goal.change-requires-clause-same
change-requires-clause-same c =
    let r = c.self.inside in
    let o = c.other.inside in
    same_total r.live o.live r.shape o.shape r.bits o.bits _ _ c.self.view_is c.other.view_is c.self.invariant.total c.other.invariant.total c.requires.shape

pub has_class-self-inside-requires-clause-label : goal.has_class-self-inside-requires-clause-label
has_class-self-inside-requires-clause-label c = let r = c.self.inside in label_within r.live r.shape r.bits _ c.self.view_is c.self.invariant.total c.args.label c.requires.label

pub invariant_of-self : goal.invariant_of-self
invariant_of-self c =
    let r = c.self.inside in
    let o = c.other.inside in
    let now = met_label r.live o.live r.shape o.shape r.bits o.bits _ _ c.self.view_is c.other.view_is c.self.invariant.total c.other.invariant.total c.requires.shape c.args.label c.start-from.result c.end-to.result c.requires.label c.start-from.ensures c.end-to.ensures c.if-self.true
    c.if-other.true c.has_class-self-inside.result c.change.new.self (c.self.invariant.known c.if-self.true) c.change.ensures.len c.change.ensures.below c.change.ensures.above
    c.change.ensures.inside c.has_class-self-inside.ensures.some c.has_class-self-inside.ensures.none in
    record {
      some = c.self.invariant.some;
      total = c.change.ensures.len ∙ c.self.invariant.total;
      known = λ e. now.0 ∙ e;
      small = c.self.invariant.small;
    }

pub returns-then-other : goal.returns-then-other
returns-then-other c =
    let r = c.self.inside in
    let o = c.other.inside in
    let now = met_label r.live o.live r.shape o.shape r.bits o.bits _ _ c.self.view_is c.other.view_is c.self.invariant.total c.other.invariant.total c.requires.shape c.args.label c.start-from.result c.end-to.result c.requires.label c.start-from.ensures c.end-to.ensures c.if-self.true
    c.if-other.true c.has_class-self-inside.result c.change.new.self (c.self.invariant.known c.if-self.true) c.change.ensures.len c.change.ensures.below c.change.ensures.above
    c.change.ensures.inside c.has_class-self-inside.ensures.some c.has_class-self-inside.ensures.none in
    now.1

pub returns-else-other : goal.returns-else-other
returns-else-other c =
    let r = c.self.inside in
    let o = c.other.inside in
    let empty = empty_holds o.shape o.bits _ (ap (λ b. shown b (cut o.shape o.bits)) (sym c.if-other.false) ∙ c.other.view_is) in
    narrowed_out r.shape r.bits _ c.args.label (holds c.args.other.now) c.self.invariant.total (ap (λ b. shown b (cut r.shape r.bits)) (sym c.if-self.true) ∙ c.self.view_is) c.requires.label (empty c.args.label)

pub returns-else-self : goal.returns-else-self
returns-else-self c =
    let r = c.self.inside in
    narrowed_dead r.shape r.bits _ c.args.label (holds c.args.other.now) c.self.invariant.total (ap (λ b. shown b (cut r.shape r.bits)) (sym c.if-self.false) ∙ c.self.view_is) c.self.invariant.some
