use Rattle.std.proofs.Common.{◌-◌, ◌≡◌, ℕ, List, ◌+◌, ◌≤◌, take, vec_len}
use Rattle.lf_lint.proofs.Streams.{IsReadSoFar}
use Rattle.lf_lint.proofs.reading.read_whole.Given as goal

abbrev pub invariant-loop-filled : goal.invariant-loop-filled
invariant-loop-filled g l = record {
  within : l.filled ≤ vec_len l.bytes;
  room : vec_len l.bytes ≤ l.room;
  ready : g.F.Files.is_open l.files;
  calm : g.F.Files.faults l.files ≡ 0;
  opened : g.F.Files.opens l.files ≡ g.F.Files.opens l.fn.files + 1;
  so_far : IsReadSoFar (g.F.Files.held l.fn.files l.name) (g.F.Files.left l.files) (take l.filled l.bytes.items);
  kept : (other : List ℕ) → g.F.Files.held l.files other ≡ g.F.Files.held l.fn.files other;
}

abbrev pub decreases-loop-filled : goal.decreases-loop-filled
decreases-loop-filled g l = l.room - l.filled
