use Rattle.std.proofs.Common.{◌≡◌, ◌+◌, ◌≤◌, ◌∷◌, take, drop}
use Rattle.std.specs.List.{sum}
use Rattle.std.specs.Slots.{slots_items}
use Rattle.std.specs.Vec.{vec_capacity, vec_len}
use Rattle.lf_rounds.specs.Words.{AreWords}
use Rattle.lf_rounds.proofs.table_words.TableWords.of_closed.Given as goal

abbrev pub invariant-loop-k : goal.invariant-loop-k
invariant-loop-k l = record {
  words : l.all.items ≡ 0 ∷ take l.k (drop 1 (slots_items l.closed.words));
  fit : AreWords (take l.k (drop 1 (slots_items l.closed.words)));
  total : l.total ≡ sum (take l.k (drop 1 (slots_items l.closed.words)));
  len : vec_len l.all ≡ l.k + 1;
  room : l.count + 1 ≤ vec_capacity l.all;
}
