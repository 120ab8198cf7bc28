use Rattle.std.proofs.Common.{◌≡◌, ◌++◌, length, map, reverse}
use Rattle.std.specs.List.{flat_map}
use Rattle.lf_ast.specs.Rules.{rule_trees}
use Rattle.lf_judge.proofs.Found.{refusal_of, rules_of}
use Rattle.lf_judge.proofs.accepting.put_together.Given as goal

abbrev pub invariant-loop-next : goal.invariant-loop-next
invariant-loop-next l = record {
  refusals : l.refusals ++ map refusal_of (reverse l.taken) ≡ map refusal_of (reverse l.initial.taken);
  rules : rule_trees l.rules ++ flat_map rules_of (reverse l.taken) ≡ flat_map rules_of (reverse l.initial.taken);
}

abbrev pub decreases-loop-next : goal.decreases-loop-next
decreases-loop-next l = length l.taken
