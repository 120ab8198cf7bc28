use Rattle.std.proofs.Common.{◌≡◌, ◌+◌, ◌<◌, ℕ, length, slice_index, take}
use Rattle.std.specs.List.{sum}
use Rattle.lf_rounds.specs.Facts.{task}
use Rattle.lf_rounds.specs.Sums.{sum_of_loads}
use Rattle.lf_rounds.specs.Tasks.{width}
use Rattle.lf_rounds.specs.views.Working.{ChangedAt, IsAsBefore, IsUsed, seen}
use Rattle.lf_rounds.proofs.round.Round.load_words.Given as goal

abbrev pub invariant-loop-k : goal.invariant-loop-k
invariant-loop-k l = record {
  used : IsUsed l.self l.seat.table_id l.seat.me;
  same : IsAsBefore l.initial.seat.me.0 l.seat.me.0;
  others : ChangedAt l.at (width (task l.self)) (seen l.self l.initial.seat.me) (seen l.self l.seat.me);
  full : length l.words.items ≡ width (task l.self);
  loads : sum_of_loads l.seat.me.0.loads ≡ sum_of_loads l.initial.seat.me.0.loads + sum (take l.k l.words.items);
  read : (j : ℕ) → j < l.k → slice_index (take l.k l.words.items) j ≡ slice_index (seen l.self l.seat.me) (l.at + j);
}
