use Rattle.std.proofs.Common.{◌≡◌, ℕ, List, length, sym, subst, arith}
use Rattle.lf_graph.specs.views.Listing.{AreMembers}
use Rattle.lf_graph.proofs.Listed.{no_members, one_more_member}
use Rattle.lf_graph.proofs.components.list_members.Goals as goal

pub loop-node-init : goal.loop-node-init
loop-node-init c =
    let P : List (List ℕ) → Type 0 = λ l. AreMembers c.args.numbers.now 0 c.args.count l in
    subst P (sym c.in_ok-members.ensures) (no_members c.args.numbers.now c.args.count)

pub push-requires : goal.push-requires
push-requires c =
    let h = c.requires c.loop-node.node c.loop-node-test.true in
    omega (arith, h, c.loop-node.invariant.size)

pub loop-node-preserved : goal.loop-node-preserved
loop-node-preserved c =
    one_more_member c.args.numbers.now c.loop-node.node c.args.count c.loop-node.members c.push.new.self (c.requires c.loop-node.node c.loop-node-test.true) c.loop-node.invariant c.in_ok-push.ensures.ok

pub returns : goal.returns
returns c =
    let P : ℕ → Type 0 = λ n. AreMembers c.args.numbers.now n c.args.count c.loop-node.members in
    let all : c.loop-node.node ≡ length c.args.numbers.now = omega (arith, c.loop-node-test.false, c.loop-node.auto.node-end) in
    subst P all c.loop-node.invariant
