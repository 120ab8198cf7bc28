use Rattle.std.proofs.Common.{◌≡◌, ◌+◌, ℕ, List}
use Rattle.lf_lint.proofs.Gathered.{AreGatheredSoFar}
use Rattle.lf_lint.proofs.sources.read_each.Given as goal

abbrev pub invariant-loop-name : goal.invariant-loop-name
invariant-loop-name g l = record {
  so_far : AreGatheredSoFar (g.F.Files.held l.fn.files) l.names l.name-index l.sources l.before;
  calm : g.F.Files.faults l.files ≡ 0;
  opened : g.F.Files.opens l.files ≡ g.F.Files.opens l.fn.files + l.name-index;
  kept : (name : List ℕ) → g.F.Files.held l.files name ≡ g.F.Files.held l.fn.files name;
}
