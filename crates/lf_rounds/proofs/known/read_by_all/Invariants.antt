use Rattle.std.proofs.Common.{◌≡◌, ◌<◌, ℕ, [], length, slice_index_or}
use Rattle.lf_flow.specs.views.Reading.{AreSelected}
use Rattle.lf_rounds.proofs.known.read_by_all.Given as goal

abbrev pub invariant-loop-k : goal.invariant-loop-k
invariant-loop-k l = record {
  count : length l.all ≡ l.k;
  each : (number : ℕ) → number < l.k → AreSelected l.sources.names (slice_index_or l.sources.selected number []) (slice_index_or l.all number []);
}
