use Rattle.std.proofs.Common.{◌≡◌, ◌++◌, length, map, reverse}
use Rattle.lf_ast.specs.Rules.{RuleTree}
use Rattle.lf_worlds.specs.views.Told.{label_verdict}
use Rattle.lf_judge.specs.Judged.{verdict_told}
use Rattle.lf_judge.proofs.verdicts.each_told.Given as goal

abbrev pub invariant-loop-verdict : goal.invariant-loop-verdict
invariant-loop-verdict l = (r : RuleTree) → r.expr_span ≡ l.span
    → l.told ++ map (λ v. verdict_told l.first l.number r (label_verdict v)) (reverse l.taken) ≡ map (λ v. verdict_told l.first l.number r (label_verdict v)) (reverse l.initial.taken)

abbrev pub decreases-loop-verdict : goal.decreases-loop-verdict
decreases-loop-verdict l = length l.taken
