-- No file before `k` has the name.
use Rattle.std.proofs.Common.{◌≢◌, ◌<◌, ℕ}
use Rattle.lf_base.specs.views.FileList.{name_at}
use Rattle.lf_base.proofs.mem_files.find_file.Given as goal

abbrev pub invariant-loop-k : goal.invariant-loop-k
invariant-loop-k l = (j : ℕ) → j < l.k → name_at l.files j ≢ l.name
