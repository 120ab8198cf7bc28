use Rattle.lf_ast.specs.Rules.{rule_trees}
use Rattle.lf_judge.proofs.Found.{all_refusals, all_rules, moved_rules, refusal_of}
use Rattle.lf_judge.proofs.Places.{moved_more}
use Rattle.lf_judge.proofs.accepting.put_together.Goals as goal

pub loop-next-preserved : goal.loop-next-preserved
loop-next-preserved c = record {
  refusals =
      moved_more refusal_of c.loop-next.refusals c.push.new.self _ c.loop-next.taken c.pop.new.self c.in-Some.next c.in_ok-refusal.refusal c.in-Some.ensures.some c.in_ok-refusal.ensures.refusal c.in_ok-push.ensures.ok
      c.loop-next.invariant.refusals;
  rules = moved_rules (rule_trees c.loop-next.rules) (rule_trees c.move_found.new.rules) _ c.loop-next.taken c.pop.new.self c.in-Some.next c.in-Some.ensures.some c.in_ok-refusal.ensures.rules c.loop-next.invariant.rules;
}

pub returns : goal.returns
returns c = (
  all_refusals c.loop-next.taken c.in_ok-taken.taken c.args.found c.in_default.ensures.none.0 c.in_ok-taken.ensures c.loop-next.refusals c.loop-next.invariant.refusals,
  all_rules c.loop-next.taken c.in_ok-taken.taken c.args.found c.in_default.ensures.none.0 c.in_ok-taken.ensures (rule_trees c.loop-next.rules) c.loop-next.invariant.rules,
)
