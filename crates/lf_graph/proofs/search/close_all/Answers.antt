use Rattle.std.proofs.Common.{ℕ, get_or, arith}
use Rattle.std.proofs.lemmas.List.Elements.{Contains-get_or}
use Rattle.lf_graph.proofs.Marks.{one_more}
use Rattle.lf_graph.proofs.search.close_all.Goals as goal

pub put-requires : goal.put-requires
put-requires c =
    let i : ℕ = c.loop-member.member-index in
    let within = c.requires (get_or c.args.members.now i 0) (Contains-get_or c.args.members.now i 0 c.loop-member-test.true) in
    let count = c.loop-member.invariant.count in
    omega (arith, within, count)

pub loop-member-preserved : goal.loop-member-preserved
loop-member-preserved c =
    let i : ℕ = c.loop-member.member-index in
    one_more c.args.number c.args.members.now c.args.nodes.now.items c.loop-member.nodes.items c.put.new.nodes.items i c.loop-member-test.true
    (c.requires (get_or c.args.members.now i 0) (Contains-get_or c.args.members.now i 0 c.loop-member-test.true)) c.loop-member.invariant c.put.ensures
