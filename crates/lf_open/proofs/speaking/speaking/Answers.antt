use Rattle.lf_ast.specs.Tree.{tree}
use Rattle.lf_ast.specs.views.Walks.{trees_at}
use Rattle.std.proofs.Common.{◌≡◌, [], subst, arith}
use Rattle.std.proofs.lemmas.List.{nil_from_length}
use Rattle.lf_open.proofs.StandingParts.{Walked, ends, found_more, less_found, less_passed, passed}
use Rattle.lf_open.proofs.speaking.speaking.Goals as goal

pub loop-part-smaller-in-Continue-branch-3 : goal.loop-part-smaller-in-Continue-branch-3
loop-part-smaller-in-Continue-branch-3 c =
    less_found (tree c.args.expr.now) c.loop-part.found.items c.loop-part.left.items c.pop.new.self.items c.in-Some.part c.in-Some.ensures.items c.push_speaking.new.found.items c.push_parts.new.parts.items c.in_ok-push_speaking.ensures c.in_ok-push_parts.ensures

pub loop-part-preserved-in-Continue-branch-3 : goal.loop-part-preserved-in-Continue-branch-3
loop-part-preserved-in-Continue-branch-3 c =
    found_more (tree c.args.expr.now) c.loop-part.found.items c.loop-part.left.items c.pop.new.self.items c.in-Some.part c.in-Some.ensures.items c.push_speaking.new.found.items c.push_parts.new.parts.items c.in_ok-push_speaking.ensures c.in_ok-push_parts.ensures c.is_scalar_call.result c.is_scalar_call.ensures c.if-not-is_scalar_call.true c.loop-part.invariant

pub loop-part-smaller : goal.loop-part-smaller
loop-part-smaller c =
    less_passed (tree c.args.expr.now) c.loop-part.found.items c.loop-part.left.items c.pop.new.self.items c.in-Some.part c.in-Some.ensures.items

pub loop-part-preserved : goal.loop-part-preserved
loop-part-preserved c =
    passed (tree c.args.expr.now) c.loop-part.found.items c.loop-part.left.items c.pop.new.self.items c.in-Some.part c.in-Some.ensures.items c.is_scalar_call.result c.is_scalar_call.ensures c.if-not-is_scalar_call.false c.loop-part.invariant

pub returns : goal.returns
returns c =
    let none : c.loop-part.left.items ≡ [] = nil_from_length c.loop-part.left.items (omega (arith, c.loop-part.left.ok, c.in_default.ensures.cases.0)) in
    ends (tree c.args.expr.now) (trees_at c.loop-part.found.items) (subst (λ l. Walked (tree c.args.expr.now) (trees_at c.loop-part.found.items) (trees_at l)) none c.loop-part.invariant)
