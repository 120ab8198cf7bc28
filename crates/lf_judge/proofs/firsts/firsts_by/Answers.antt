use Rattle.std.proofs.Common.{◌∙◌, List, length, true, ap, refl, subst, arith}
use Rattle.lf_ast.specs.Rules.{RuleTree}
use Rattle.lf_open.specs.views.Firsts.{rules_in}
use Rattle.lf_judge.proofs.Named.{IsNamed, all_named, names_more, names_none}
use Rattle.lf_judge.proofs.firsts.firsts_by.Goals as goal

pub open_for-requires-clause-within : goal.open_for-requires-clause-within
open_for-requires-clause-within c = omega (arith, c.loop-k-test.true, c.len-k-end.ensures, c.requires.count, ap length c.loop-k.invariant.same)

pub loop-k-init : goal.loop-k-init
loop-k-init c = record { named = names_none (rules_in c.args.open_firsts.now) c.args.found.now c.new-firsts.result c.new-firsts.ensures; ready = c.requires.ready; same = refl }

pub loop-k-preserved : goal.loop-k-preserved
loop-k-preserved c =
    let rules : List RuleTree = rules_in c.args.open_firsts.now in
    let named : IsNamed rules c.args.found.now c.loop-k.k c.get.result.now c.in_ok-first.first =
    subst (λ (rs : List RuleTree). IsNamed rs c.args.found.now c.loop-k.k c.get.result.now c.in_ok-first.first) c.loop-k.invariant.same c.in_ok-first.ensures.first in
    record {
      named = names_more rules c.args.found.now c.loop-k.k c.loop-k.firsts c.push.new.self c.in_ok-first.first c.get.result.now c.get.ensures.value c.loop-k.invariant.named c.in_ok-push.ensures.ok named;
      ready = c.in_ok-first.ensures.ready;
      same = c.in_ok-first.ensures.same ∙ c.loop-k.invariant.same;
    }

pub returns : goal.returns
returns c = all_named (rules_in c.args.open_firsts.now) c.args.found.now c.loop-k.k c.loop-k.firsts (omega (arith, c.loop-k-test.false, c.len-k-end.ensures)) c.loop-k.invariant.named
