use Rattle.std.proofs.Common.{ap, subst}
use Rattle.lf_ast.specs.Rules.{rule_trees}
use Rattle.lf_rounds.specs.Facts.{RoundFacts, task}
use Rattle.lf_rounds.specs.Tasks.{IsTask}
use Rattle.lf_rounds.proofs.Working.{bottom_is}
use Rattle.lf_rounds.proofs.round.Round.work_anew.Goals as goal

pub work_on_from-requires-clause-env : goal.work_on_from-requires-clause-env
work_on_from-requires-clause-env g c =
    let round = c.args.self.now in
    let T : RoundFacts → Type 0 = λ f. IsTask (task f) in
    let is : IsTask (task round) = subst T c.self.view_is c.self.invariant.task in
    bottom_is (task round) is c.args.universe.now (rule_trees c.args.rules.now) c.in_ok-env.env c.requires.over.0 (ap rule_trees c.requires.over.1) c.in_ok-env.ensures
