use Rattle.std.proofs.Common.{refl, rules, ◌∙◌}
use Rattle.lf_ast.specs.Tree.{tree}
use Rattle.lf_ast.proofs.Listing.{finds, starts}
use Rattle.lf_ast.proofs.Walks.{falls}
use Rattle.lf_ast.proofs.walk.listing.nodes_by_frames.Goals as goal

pub loop-frame-init : goal.loop-frame-init
loop-frame-init c = search (rules, starts (tree c.args.expr.now))

pub loop-frame-smaller-in-Continue-branch-5 : goal.loop-frame-smaller-in-Continue-branch-5
loop-frame-smaller-in-Continue-branch-5 c =
    falls _ _ _ _ _ _ _ c.in-Some.ensures.items c.in_ok-push-3.ensures.items c.in_ok-push-5.ensures.items c.in-Some-split_first.ensures.some

pub loop-frame-preserved-in-Continue-branch-5 : goal.loop-frame-preserved-in-Continue-branch-5
loop-frame-preserved-in-Continue-branch-5 c =
    finds _ _ _ _ _ _ _ c.in-Some.ensures.items c.in_ok-push-3.ensures.items c.in_ok-push-5.ensures.items c.in-Some-split_first.ensures.some refl _ _ c.in_ok-push-4.ensures.items ∙ c.loop-frame.invariant
