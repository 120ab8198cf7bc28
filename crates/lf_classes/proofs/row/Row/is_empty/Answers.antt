use Rattle.std.proofs.Common.{not, sym, ◌∙◌, ap}
use Rattle.lf_semantics.specs.ClassRows.{normalized}
use Rattle.lf_classes.specs.views.Cut.{cut}
use Rattle.lf_classes.proofs.Changes.{live_view, settled_shown}
use Rattle.lf_classes.proofs.row.Row.is_empty.Goals as goal

pub returns : goal.returns
returns c =
    let r = c.self.inside in
    record {
      empty = ap not (sym (live_view r.live r.shape r.bits _ c.self.view_is c.self.invariant.total c.self.invariant.some c.self.invariant.known));
      settled = ap normalized (sym c.self.view_is) ∙ settled_shown r.live (cut r.shape r.bits) c.self.invariant.known ∙ c.self.view_is;
    }
