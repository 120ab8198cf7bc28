use Rattle.std.proofs.Common.{◌≡◌, ◌+◌, true, length, sym, ◌∙◌, ap, arith, length-set}
use Rattle.lf_semantics.specs.ClassRows.{set_to}
use Rattle.lf_classes.specs.views.Cut.{cut, shown}
use Rattle.lf_classes.proofs.Cutting.{length-cut, start_within}
use Rattle.lf_classes.proofs.Changes.{label_within, place_within, set_empty, set_row}
use Rattle.lf_classes.proofs.row.Row.set_class.Goals as goal

pub start-from-requires : goal.start-from-requires
start-from-requires c = let r = c.self.inside in label_within r.live r.shape r.bits _ c.self.view_is c.self.invariant.total c.args.label c.requires.label

pub end-to-requires : goal.end-to-requires
end-to-requires c = let r = c.self.inside in label_within r.live r.shape r.bits _ c.self.view_is c.self.invariant.total c.args.label c.requires.label

pub fill-requires : goal.fill-requires
fill-requires c =
    let r = c.self.inside in
    let l = label_within r.live r.shape r.bits _ c.self.view_is c.self.invariant.total c.args.label c.requires.label in
    omega (arith, c.end-to.ensures, start_within r.shape c.args.label l, c.self.invariant.total)

pub set-requires : goal.set-requires
set-requires c =
    let r = c.self.inside in
    omega (arith, c.fill.ensures.len, c.start-from.ensures, place_within r.live r.shape r.bits _ c.self.view_is c.self.invariant.total c.args.label c.args.class c.requires.label c.requires.class)

pub invariant_of-self : goal.invariant_of-self
invariant_of-self c =
    let r = c.self.inside in
    let now = set_row r.live r.shape r.bits c.fill.new.self c.set.new.self _ c.args.label c.args.class c.start-from.result c.end-to.result
    c.self.view_is c.self.invariant.total c.if-self.true (c.self.invariant.known c.if-self.true) c.requires.label c.requires.class c.start-from.ensures c.end-to.ensures
    c.fill.ensures.len c.fill.ensures.inside c.fill.ensures.below c.fill.ensures.above c.set.ensures in
    record {
      some = c.self.invariant.some;
      total = ap length c.set.ensures ∙ length-set c.fill.new.self (c.start-from.result + c.args.class) true ∙ c.fill.ensures.len ∙ c.self.invariant.total;
      known = λ e. now.0;
      small = c.self.invariant.small;
    }

pub returns-then-self : goal.returns-then-self
returns-then-self c =
    let r = c.self.inside in
    let now = set_row r.live r.shape r.bits c.fill.new.self c.set.new.self _ c.args.label c.args.class c.start-from.result c.end-to.result
    c.self.view_is c.self.invariant.total c.if-self.true (c.self.invariant.known c.if-self.true) c.requires.label c.requires.class c.start-from.ensures c.end-to.ensures
    c.fill.ensures.len c.fill.ensures.inside c.fill.ensures.below c.fill.ensures.above c.set.ensures in
    ap (λ b. shown b (cut r.shape c.set.new.self)) c.if-self.true ∙ now.1

pub returns-else-self : goal.returns-else-self
returns-else-self c =
    let r = c.self.inside in
    let empty = set_empty c.args.label c.args.class (cut r.shape r.bits) (omega (arith, c.self.invariant.some, length-cut r.shape r.bits)) in
    let e : shown r.live (cut r.shape r.bits) ≡ set_to c.args.label c.args.class (shown r.live (cut r.shape r.bits)) = rw c.if-self.false empty in
    sym c.self.view_is ∙ e ∙ ap (set_to c.args.label c.args.class) c.self.view_is

pub overflow_add-from : goal.overflow_add-from
overflow_add-from c =
    let r = c.self.inside in
    omega (arith, c.start-from.ensures, c.self.invariant.total, c.self.invariant.small, place_within r.live r.shape r.bits _ c.self.view_is c.self.invariant.total c.args.label c.args.class c.requires.label c.requires.class)
