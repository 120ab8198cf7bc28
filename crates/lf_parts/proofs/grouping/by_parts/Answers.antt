use Rattle.std.proofs.Common.{◌≤◌, ◌≡◌, ◌∷◌, ◌++◌, [], IfSome, rules, length, map, ap, sym, ◌∙◌, subst}
use Rattle.std.proofs.lemmas.List.{map-append}
use Rattle.lf_ast.specs.Tree.{Tree, parts_of, tree}
use Rattle.lf_ast.specs.views.Walks.{trees_at}
use Rattle.lf_parts.proofs.Standing.{all_made, begun, enough, goes_on, last_value, parts_are, value_there}
use Rattle.lf_parts.proofs.grouping.by_parts.Goals as goal

pub loop-node-init : goal.loop-node-init
loop-node-init g c = λ value are. record {
  folded = begun value (λ (x : Tree). map value (parts_of x)) (tree c.args.expr.now) (trees_at c.in_ok-nodes.nodes.items) c.new-stack.result.items c.new-groups.result.items c.in_ok-nodes.ensures c.new-stack.ensures.items c.new-groups.ensures.items;
  unmoved = c.from_vec-left.ensures ∙ are ∙ sym (ap (map value) c.in_ok-nodes.ensures);
}

pub take_last-requires : goal.take_last-requires
take_last-requires g c =
    let value = c.requires.0 in
    let front = c.pop.new.self.items in
    let taken = ap trees_at c.in-Some.ensures.items ∙ map-append (λ e. tree e.now) front (c.in-Some.node ∷ []) in
    let now = c.loop-node.invariant value c.requires.1 in
    subst (λ n. n ≤ length c.loop-node.stack.items) (sym c.part_count.ensures)
    (enough value (λ (x : Tree). map value (parts_of x)) (tree c.args.expr.now) (trees_at c.loop-node.nodes.items) (trees_at front) (tree c.in-Some.node.now) c.loop-node.stack.items c.loop-node.groups.items taken now.folded)

pub unwrap-requires : goal.unwrap-requires
unwrap-requires g c =
    let value = c.requires.0 in
    let front = c.pop.new.self.items in
    let taken = ap trees_at c.in-Some.ensures.items ∙ map-append (λ e. tree e.now) front (c.in-Some.node ∷ []) in
    let now = c.loop-node.invariant value c.requires.1 in
    value_there value (trees_at front) (tree c.in-Some.node.now) (trees_at c.loop-node.nodes.items) taken c.loop-node.left now.unmoved c.pop-in-Some.result c.pop-in-Some.new.self c.pop-in-Some.ensures.none

pub loop-node-preserved : goal.loop-node-preserved
loop-node-preserved g c = λ value are.
    let front = c.pop.new.self.items in
    let taken = ap trees_at c.in-Some.ensures.items ∙ map-append (λ e. tree e.now) front (c.in-Some.node ∷ []) in
    let now = c.loop-node.invariant value are in
    let last = last_value value (trees_at front) (tree c.in-Some.node.now) (trees_at c.loop-node.nodes.items) taken c.loop-node.left now.unmoved c.pop-in-Some.new.self c.unwrap.result (subst (λ o. IfSome o (λ last. c.loop-node.left ≡ c.pop-in-Some.new.self ++ last ∷ [])) c.unwrap.ensures c.pop-in-Some.ensures.some) in
    let count = c.in_ok-own.ensures.count ∙ c.part_count.ensures in
    record {
      folded = goes_on value (λ (x : Tree). map value (parts_of x)) (tree c.args.expr.now) (trees_at c.loop-node.nodes.items) (trees_at front) (tree c.in-Some.node.now) c.loop-node.stack.items c.loop-node.groups.items taken now.folded
          c.in_ok-own.own.items c.take_last.new.values.items c.in_ok-own.ensures.taken count
          c.unwrap.result c.from_vec.result c.push-in-Some.new.self.items c.push.new.self.items last.1
          (c.from_vec.ensures ∙ parts_are value (λ (x : Tree). map value (parts_of x)) (tree c.args.expr.now) (trees_at c.loop-node.nodes.items) (trees_at front) (tree c.in-Some.node.now) c.loop-node.stack.items c.loop-node.groups.items taken now.folded
          c.in_ok-own.own.items c.take_last.new.values.items c.in_ok-own.ensures.taken count)
          c.in_ok-push.ensures.items c.in_ok-push-2.ensures.items;
      unmoved = last.0;
    }

pub returns : goal.returns
returns g c = λ value are.
    let none : c.loop-node.nodes.items ≡ [] = search rules in
    c.reverse.ensures.items
    ∙ all_made value (λ (x : Tree). map value (parts_of x)) (tree c.args.expr.now) c.loop-node.stack.items c.loop-node.groups.items (trees_at c.loop-node.nodes.items) (c.loop-node.invariant value are).folded (ap trees_at none)
