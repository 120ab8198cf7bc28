use Rattle.std.proofs.Common.{map, ◌∙◌, length, ap, arith}
use Rattle.std.proofs.lemmas.List.{take_all}
use Rattle.lf_trials.specs.Reached.{has_several_rules}
use Rattle.lf_forks.proofs.Several.{several_more}
use Rattle.lf_forks.proofs.own.have_several.Goals as goal

pub loop-k-preserved : goal.loop-k-preserved
loop-k-preserved c = λ rules is.
    let size = ap length c.recorded-2.ensures in
    c.in_ok-push.ensures.items ∙ several_more rules c.args.sources.now is c.loop-k.k (omega (arith, c.loop-k-test.true, c.len-k-end.ensures.count, size)) c.makers_at-makers.result.now c.makers_at-makers.ensures c.loop-k.several.items (c.loop-k.invariant rules is)

pub returns : goal.returns
returns c = λ rules is.
    let size = ap length c.recorded-2.ensures in
    c.loop-k.invariant rules is ∙ ap (map (has_several_rules rules)) (take_all c.loop-k.k c.args.sources.now.names (omega (arith, c.loop-k-test.false, c.len-k-end.ensures.count, size)))
