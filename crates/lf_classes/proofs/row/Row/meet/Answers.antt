use Rattle.std.proofs.Common.{sym, arith}
use Rattle.lf_classes.proofs.Changes.{met_left, met_right, met_row, same_total}
use Rattle.lf_classes.proofs.row.Row.meet.Goals as goal

pub change-requires-clause-same : goal.change-requires-clause-same
change-requires-clause-same c =
    let r = c.self.inside in
    let o = c.other.inside in
    same_total r.live o.live r.shape o.shape r.bits o.bits _ _ c.self.view_is c.other.view_is c.self.invariant.total c.other.invariant.total c.requires

pub returns-then-other : goal.returns-then-other
returns-then-other c =
    let r = c.self.inside in
    let o = c.other.inside in
    met_row r.live o.live r.shape o.shape r.bits o.bits _ _ c.self.view_is c.other.view_is c.self.invariant.total c.other.invariant.total c.requires
    c.if-self.true c.if-other.true c.all_live-self-inside.result c.change.new.self c.change.ensures.len (λ k h. c.change.ensures.inside k (omega arith) (omega (arith, h, c.len-end.ensures))) (sym c.all_live-self-inside.ensures)

pub returns-else-other : goal.returns-else-other
returns-else-other c =
    let r = c.self.inside in
    let o = c.other.inside in
    met_right r.live o.live r.shape o.shape r.bits o.bits _ _ c.self.view_is c.other.view_is c.self.invariant.total c.other.invariant.total c.requires c.if-self.true c.if-other.false c.self.invariant.some

pub returns-else-self : goal.returns-else-self
returns-else-self c =
    let r = c.self.inside in
    let o = c.other.inside in
    met_left r.live o.live r.shape o.shape r.bits o.bits _ _ c.self.view_is c.other.view_is c.self.invariant.total c.other.invariant.total c.requires c.if-self.false c.self.invariant.some
