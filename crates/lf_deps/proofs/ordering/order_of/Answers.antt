use Rattle.std.proofs.Common.{◌≡◌, ◌++◌, ℕ, false, Bool, List, [], ◌∷◌, length, replicate, sym, ◌∙◌, ap, subst, arith}
use Rattle.std.specs.List.{range_with_len}
use Rattle.std.proofs.lemmas.List.{nil_from_length}
use Rattle.std.proofs.lemmas.List.FromFn.{length-range_with_len}
use Rattle.lf_ast.specs.Rules.{RuleTree, rule_trees}
use Rattle.lf_deps.proofs.Ordered.{OrderGoesOn, all_left, fewer_left, goes_on, left_of, links_whole, one_left, order_ends, rules_size}
use Rattle.lf_deps.proofs.RuleTrees.{trees_count}
use Rattle.lf_deps.proofs.ordering.order_of.Goals as goal

pub of-requires-2 : goal.of-requires-2
of-requires-2 c = links_whole (rule_trees c.args.rules.now) c.in_ok-links.links c.in_ok-links.ensures

pub loop-place-init : goal.loop-place-init
loop-place-init c =
    let rules : List RuleTree = rule_trees c.args.rules.now in
    let n : ℕ = length rules in
    let is = c.in_ok-links.ensures in
    let size : length c.in_ok-links.links.waited ≡ n = rules_size rules c.in_ok-links.links is in
    let all : left_of c.in_ok-queue.queue.taken.items n ≡ range_with_len 0 n =
    ap (λ (t : List Bool). left_of t n) (c.in_ok-queue.ensures.taken ∙ ap (λ (m : ℕ). replicate m false) size) ∙ all_left n in
    let P : List ℕ → Type 0 = λ l. OrderGoesOn rules (range_with_len 0 n) c.in_ok-order.order l in
    let Q : List ℕ → Type 0 = λ o. OrderGoesOn rules (range_with_len 0 n) o (range_with_len 0 n) in
    let e = ap length all in
    let l = length-range_with_len 0 n in
    record {
      ready = c.in_ok-queue.ensures.ready;
      goes_on = subst P (sym all) (subst Q (sym c.in_ok-order.ensures) (λ rest rest_is. rest_is));
      count = omega (arith, e, l);
    }

pub next-requires-clause-whole : goal.next-requires-clause-whole
next-requires-clause-whole c = links_whole (rule_trees c.args.rules.now) c.in_ok-links.links c.in_ok-links.ensures

pub next-requires-clause-some : goal.next-requires-clause-some
next-requires-clause-some c =
    let inv = c.loop-place.invariant in
    let size = trees_count c.args.rules.now in
    one_left (rule_trees c.args.rules.now) c.in_ok-links.links c.in_ok-links.ensures c.loop-place.queue inv.ready (omega (arith, inv.count, size, c.loop-place-test.true, c.len-place-end.ensures))

pub loop-place-preserved : goal.loop-place-preserved
loop-place-preserved c =
    let rules : List RuleTree = rule_trees c.args.rules.now in
    let inv = c.loop-place.invariant in
    let takes = c.in_ok-next.ensures in
    let on = goes_on rules c.in_ok-links.links c.in_ok-links.ensures c.loop-place.queue inv.ready c.in_ok-next.next c.next.new.self takes c.loop-place.order inv.goes_on in
    let fewer = fewer_left rules c.in_ok-links.links c.in_ok-links.ensures c.loop-place.queue inv.ready c.in_ok-next.next c.next.new.self takes in
    let P : List ℕ → Type 0 = λ o. OrderGoesOn rules (range_with_len 0 (length rules)) o (left_of c.next.new.self.taken.items (length rules)) in
    record {
      ready = takes.ready;
      goes_on = subst P (sym (c.in_ok-push.ensures.ok ∙ ap (λ (k : ℕ). c.loop-place.order ++ k ∷ []) c.in_ok-rule_number.ensures)) on;
      count = omega (arith, fewer, inv.count);
    }

pub returns : goal.returns
returns c =
    let rules : List RuleTree = rule_trees c.args.rules.now in
    let inv = c.loop-place.invariant in
    let left : List ℕ = left_of c.loop-place.queue.taken.items (length rules) in
    let size = trees_count c.args.rules.now in
    let none : left ≡ [] = nil_from_length left (omega (arith, inv.count, size, c.loop-place-test.false, c.len-place-end.ensures)) in
    let P : List ℕ → Type 0 = λ l. OrderGoesOn rules (range_with_len 0 (length rules)) c.loop-place.order l in
    order_ends rules (range_with_len 0 (length rules)) c.loop-place.order (subst P none inv.goes_on)
