use Rattle.std.proofs.Common.{false, get_or, sym, ◌∙◌, ap, arith}
use Rattle.lf_classes.specs.views.Cut.{cut, shown}
use Rattle.lf_semantics.proofs.RowSets.{count_at}
use Rattle.lf_classes.proofs.Cutting.{start_within}
use Rattle.lf_classes.proofs.Changes.{label_within, shape_view}
use Rattle.lf_classes.proofs.LabelChanges.{listed_narrowed, narrowed_dead}
use Rattle.lf_classes.proofs.row.Row.narrow_classes.Goals as goal

pub start-from-requires : goal.start-from-requires
start-from-requires c = let r = c.self.inside in label_within r.live r.shape r.bits _ c.self.view_is c.self.invariant.total c.args.label c.requires.label

pub narrow-requires-clause-within : goal.narrow-requires-clause-within
narrow-requires-clause-within c =
    let r = c.self.inside in
    let l = label_within r.live r.shape r.bits _ c.self.view_is c.self.invariant.total c.args.label c.requires.label in
    omega (arith, c.start-from.ensures, c.requires.classes, count_at _ r.shape c.args.label (shape_view r.live r.shape r.bits _ c.self.view_is c.self.invariant.total) c.requires.label, start_within r.shape c.args.label l, c.self.invariant.total)

pub has_class-self-inside-requires-clause-label : goal.has_class-self-inside-requires-clause-label
has_class-self-inside-requires-clause-label c = let r = c.self.inside in label_within r.live r.shape r.bits _ c.self.view_is c.self.invariant.total c.args.label c.requires.label

pub invariant_of-self : goal.invariant_of-self
invariant_of-self c =
    let r = c.self.inside in
    let now = listed_narrowed c.has_class-self-inside.result r.shape r.bits c.narrow.new.bits _ c.args.label c.start-from.result c.args.on.now
    (ap (λ b. shown b (cut r.shape r.bits)) (sym c.if-self.true) ∙ c.self.view_is) c.self.invariant.total (c.self.invariant.known c.if-self.true) c.requires.label c.start-from.ensures c.requires.classes
    c.narrow.ensures.len c.narrow.ensures.below c.narrow.ensures.above c.has_class-self-inside.ensures.some c.has_class-self-inside.ensures.none c.narrow.ensures.inside in
    record {
      some = c.self.invariant.some;
      total = c.narrow.ensures.len ∙ c.self.invariant.total;
      known = λ e. now.0 ∙ e;
      small = c.self.invariant.small;
    }

pub returns-then-self : goal.returns-then-self
returns-then-self c =
    let r = c.self.inside in
    let now = listed_narrowed c.has_class-self-inside.result r.shape r.bits c.narrow.new.bits _ c.args.label c.start-from.result c.args.on.now
    (ap (λ b. shown b (cut r.shape r.bits)) (sym c.if-self.true) ∙ c.self.view_is) c.self.invariant.total (c.self.invariant.known c.if-self.true) c.requires.label c.start-from.ensures c.requires.classes
    c.narrow.ensures.len c.narrow.ensures.below c.narrow.ensures.above c.has_class-self-inside.ensures.some c.has_class-self-inside.ensures.none c.narrow.ensures.inside in
    now.1

pub returns-else-self : goal.returns-else-self
returns-else-self c =
    let r = c.self.inside in
    narrowed_dead r.shape r.bits _ c.args.label (λ l i. get_or c.args.on.now i false) c.self.invariant.total (ap (λ b. shown b (cut r.shape r.bits)) (sym c.if-self.false) ∙ c.self.view_is) c.self.invariant.some
