use Rattle.std.proofs.Common.{◌∙◌, ap, sym}
use Rattle.std.specs.Prelude.{slice_get}
use Rattle.lf_classes.specs.views.PatternCache.{HasRows}
use Rattle.lf_classes.proofs.EachElement.{each_push}
use Rattle.lf_classes.proofs.pattern_cache.PatternCache.make_room.Goals as goal

pub loop-alloc-preserved : goal.loop-alloc-preserved
loop-alloc-preserved c u are k rows e =
    each_push (HasRows u) c.loop-alloc.self.labels.items c.new.result (c.loop-alloc.invariant u are) (λ label. c.new.ensures u label) k rows
    (ap (λ xs. slice_get xs k) (sym c.in_ok-push.ensures.items) ∙ e)
