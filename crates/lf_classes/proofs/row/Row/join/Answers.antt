use Rattle.std.proofs.Common.{◌∙◌, ap, arith}
use Rattle.lf_semantics.specs.ClassRows.{is_live}
use Rattle.lf_classes.specs.views.Cut.{cut, shown}
use Rattle.lf_classes.proofs.Changes.{all_taken, joined_empty, joined_right, joined_row, same_total}
use Rattle.lf_classes.proofs.row.Row.join.Goals as goal

pub change-requires-clause-same : goal.change-requires-clause-same
change-requires-clause-same c =
    let r = c.self.inside in
    let o = c.other.inside in
    same_total r.live o.live r.shape o.shape r.bits o.bits _ _ c.self.view_is c.other.view_is c.self.invariant.total c.other.invariant.total c.requires

pub change-requires-else-self-clause-same : goal.change-requires-else-self-clause-same
change-requires-else-self-clause-same c =
    let r = c.self.inside in
    let o = c.other.inside in
    same_total r.live o.live r.shape o.shape r.bits o.bits _ _ c.self.view_is c.other.view_is c.self.invariant.total c.other.invariant.total c.requires

pub invariant_of-self : goal.invariant_of-self
invariant_of-self c =
    let r = c.self.inside in
    let o = c.other.inside in
    let now = joined_row r.live o.live r.shape o.shape r.bits o.bits _ _ c.self.view_is c.other.view_is c.self.invariant.total c.other.invariant.total c.requires
    c.if-self.true c.if-other.true (c.self.invariant.known c.if-self.true) (c.other.invariant.known c.if-other.true) c.change.new.self c.change.ensures.len (λ k h. c.change.ensures.inside k (omega arith) (omega (arith, h, c.len-end.ensures))) in
    record {
      some = c.self.invariant.some;
      total = c.change.ensures.len ∙ c.self.invariant.total;
      known = λ e. now.0;
      small = c.self.invariant.small;
    }

pub returns-then-self : goal.returns-then-self
returns-then-self c =
    let r = c.self.inside in
    let o = c.other.inside in
    let now = joined_row r.live o.live r.shape o.shape r.bits o.bits _ _ c.self.view_is c.other.view_is c.self.invariant.total c.other.invariant.total c.requires
    c.if-self.true c.if-other.true (c.self.invariant.known c.if-self.true) (c.other.invariant.known c.if-other.true) c.change.new.self c.change.ensures.len (λ k h. c.change.ensures.inside k (omega arith) (omega (arith, h, c.len-end.ensures))) in
    ap (λ b. shown b (cut r.shape c.change.new.self)) c.if-self.true ∙ now.1

pub invariant_of-self-else-self : goal.invariant_of-self-else-self
invariant_of-self-else-self c =
    let r = c.self.inside in
    let o = c.other.inside in
    let now = joined_right r.live o.live r.shape o.shape r.bits o.bits _ _ c.self.view_is c.other.view_is c.self.invariant.total c.other.invariant.total c.requires
    c.if-self.false c.if-other.true c.self.invariant.some (c.other.invariant.known c.if-other.true) in
    let same = same_total r.live o.live r.shape o.shape r.bits o.bits _ _ c.self.view_is c.other.view_is c.self.invariant.total c.other.invariant.total c.requires in
    let taken = all_taken r.bits c.change-else-self.new.self o.bits c.len-end.result c.len-end.ensures c.change-else-self.ensures.len same c.change-else-self.ensures.inside in
    record {
      some = c.self.invariant.some;
      total = c.change-else-self.ensures.len ∙ c.self.invariant.total;
      known = λ e. ap (λ xs. is_live (cut r.shape xs)) taken ∙ now.0;
      small = c.self.invariant.small;
    }

pub returns-else-self : goal.returns-else-self
returns-else-self c =
    let r = c.self.inside in
    let o = c.other.inside in
    let now = joined_right r.live o.live r.shape o.shape r.bits o.bits _ _ c.self.view_is c.other.view_is c.self.invariant.total c.other.invariant.total c.requires
    c.if-self.false c.if-other.true c.self.invariant.some (c.other.invariant.known c.if-other.true) in
    let same = same_total r.live o.live r.shape o.shape r.bits o.bits _ _ c.self.view_is c.other.view_is c.self.invariant.total c.other.invariant.total c.requires in
    let taken = all_taken r.bits c.change-else-self.new.self o.bits c.len-end.result c.len-end.ensures c.change-else-self.ensures.len same c.change-else-self.ensures.inside in
    ap (cut r.shape) taken ∙ now.1

pub returns-else-other : goal.returns-else-other
returns-else-other c =
    let r = c.self.inside in
    let o = c.other.inside in
    joined_empty r.live o.live r.shape o.shape r.bits o.bits _ _ c.self.view_is c.other.view_is c.self.invariant.total c.other.invariant.total c.requires
    c.if-other.false c.self.invariant.some c.self.invariant.known
