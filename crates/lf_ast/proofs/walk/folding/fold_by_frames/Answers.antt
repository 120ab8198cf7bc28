use Rattle.lf_ast.proofs.Walks.{falls}
use Rattle.lf_ast.proofs.walk.folding.fold_by_frames.Goals as goal

pub loop-frame-smaller-in_ok-push-in-Some-split_first-2 : goal.loop-frame-smaller-in_ok-push-in-Some-split_first-2
loop-frame-smaller-in_ok-push-in-Some-split_first-2 g c =
    falls _ _ _ _ _ _ _ c.in-Some.ensures.items c.in_ok-push-in-Some-split_first.ensures.items c.in_ok-push-in-Some-split_first-2.ensures.items c.in-Some-split_first.ensures.some
