use Rattle.std.proofs.Common.{◌<◌, ℕ, List, length, subst}
use Rattle.std.specs.List.{Contains}
use Rattle.lf_runs.proofs.outcome.run_over.Goals as goal

pub strict_run-requires : goal.strict_run-requires
strict_run-requires c =
    let P : List ℕ → Type 0 = λ steps. (number : ℕ) → Contains steps number → number < length c.args.rules.now in
    subst P c.as_slice.ensures c.in_ok-ask_steps.ensures
