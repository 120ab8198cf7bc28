use Rattle.std.proofs.Common.{◌≤◌, ◌∷◌, [], length, ap, sym, ◌∙◌, subst}
use Rattle.std.proofs.lemmas.List.{map-append}
use Rattle.lf_ast.specs.Tree.{tree}
use Rattle.lf_ast.specs.views.Walks.{trees_at}
use Rattle.lf_parts.proofs.Standing.{begun, enough, goes_on, parts_are}
use Rattle.lf_parts.proofs.folding.fold_parts.Goals as goal

pub loop-node-init : goal.loop-node-init
loop-node-init g c = begun (g.F.Fold.value c.args.fold.now) (g.F.Fold.value c.args.fold.now) (tree c.args.expr.now) (trees_at c.in_ok-nodes.nodes.items) c.new-stack.result.items c.new-values.result.items c.in_ok-nodes.ensures c.new-stack.ensures.items c.new-values.ensures.items

pub take_last-requires : goal.take_last-requires
take_last-requires g c =
    let front = c.pop.new.self.items in
    let taken = ap trees_at c.in-Some.ensures.items ∙ map-append (λ e. tree e.now) front (c.in-Some.node ∷ []) in
    subst (λ n. n ≤ length c.loop-node.stack.items) (sym c.part_count.ensures)
    (enough (g.F.Fold.value c.args.fold.now) (g.F.Fold.value c.args.fold.now) (tree c.args.expr.now) (trees_at c.loop-node.nodes.items) (trees_at front) (tree c.in-Some.node.now) c.loop-node.stack.items c.loop-node.values.items taken c.loop-node.invariant)

pub value_of-requires : goal.value_of-requires
value_of-requires g c =
    let front = c.pop.new.self.items in
    let taken = ap trees_at c.in-Some.ensures.items ∙ map-append (λ e. tree e.now) front (c.in-Some.node ∷ []) in
    parts_are (g.F.Fold.value c.args.fold.now) (g.F.Fold.value c.args.fold.now) (tree c.args.expr.now) (trees_at c.loop-node.nodes.items) (trees_at front) (tree c.in-Some.node.now) c.loop-node.stack.items c.loop-node.values.items taken c.loop-node.invariant
    c.in_ok-of_parts.of_parts.items c.take_last.new.values.items c.in_ok-of_parts.ensures.taken (c.in_ok-of_parts.ensures.count ∙ c.part_count.ensures)

pub loop-node-preserved : goal.loop-node-preserved
loop-node-preserved g c =
    let front = c.pop.new.self.items in
    let taken = ap trees_at c.in-Some.ensures.items ∙ map-append (λ e. tree e.now) front (c.in-Some.node ∷ []) in
    goes_on (g.F.Fold.value c.args.fold.now) (g.F.Fold.value c.args.fold.now) (tree c.args.expr.now) (trees_at c.loop-node.nodes.items) (trees_at front) (tree c.in-Some.node.now) c.loop-node.stack.items c.loop-node.values.items taken c.loop-node.invariant
    c.in_ok-of_parts.of_parts.items c.take_last.new.values.items c.in_ok-of_parts.ensures.taken (c.in_ok-of_parts.ensures.count ∙ c.part_count.ensures)
    c.in_ok-value.value c.in_ok-copied.field-0 c.push-in-Some.new.self.items c.push.new.self.items c.in_ok-value.ensures (c.in_ok-copied.ensures ∙ c.in_ok-value.ensures) c.in_ok-push.ensures.items c.in_ok-push-2.ensures.items
