use Rattle.std.proofs.Common.{◌∙◌, ap}
use Rattle.lf_semantics.specs.ClassRows.{emptied}
use Rattle.lf_classes.specs.views.Cut.{cut}
use Rattle.lf_classes.proofs.LabelChanges.{emptied_view}
use Rattle.lf_classes.proofs.row.Row.clear.Goals as goal

pub returns : goal.returns
returns c = let r = c.self.inside in emptied_view r.live (cut r.shape r.bits) ∙ ap emptied c.self.view_is
