use Rattle.std.proofs.Common.{arith}
use Rattle.lf_semantics.proofs.RowSets.{count_at}
use Rattle.lf_classes.proofs.Changes.{label_within, shape_view}
use Rattle.lf_classes.proofs.row.Row.drop_label.Goals as goal

pub classes-some-requires : goal.classes-some-requires
classes-some-requires c = let r = c.self.inside in label_within r.live r.shape r.bits _ c.self.view_is c.self.invariant.total c.args.label c.requires

pub set_class-requires-clause-class : goal.set_class-requires-clause-class
set_class-requires-clause-class c =
    let r = c.self.inside in
    omega (arith, count_at c.args.self.now r.shape c.args.label (shape_view r.live r.shape r.bits _ c.self.view_is c.self.invariant.total) c.requires, c.classes-some.ensures.count, c.classes-some.ensures.some)
