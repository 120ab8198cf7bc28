use Rattle.std.proofs.Common.{◌≤◌, Option}
use Rattle.lf_trials.specs.Building.{Building}
use Rattle.lf_built.specs.views.Works.{Builds, effort}
use Rattle.lf_built.proofs.prepared.Prepared.build.Given as goal

abbrev pub invariant-tasks : goal.invariant-tasks
invariant-tasks l = record {
  few : l.work.made.selectors ≤ l.most;
  builds : (whole : Option Building) → Builds l.self whole l.initial.work → Builds l.self whole l.work;
}

abbrev pub decreases-tasks : goal.decreases-tasks
decreases-tasks l = effort l.self l.most l.work
