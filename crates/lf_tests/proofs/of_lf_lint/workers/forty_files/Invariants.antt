use Rattle.std.proofs.Common.{◌≡◌}
use Rattle.lf_tests.proofs.of_lf_lint.workers.forty_files.Given as goal

abbrev pub invariant-loop-k : goal.invariant-loop-k
invariant-loop-k l = record {
  faults : l.files.calls.faults ≡ 0;
  opens : l.files.opens ≡ 0;
}
