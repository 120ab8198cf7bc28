-- What contracts see of a place for bytes in memory.
use Rattle.std.specs.Prelude.{ℕ, ◌-◌, List, ◌++◌, length, take, min}
use Rattle.lf_base.specs.Calls.{Calls, answered}

-- the bytes taken, how many a write takes at most, how many are taken in all at most, and the calls of `write`
pub record SinkState : Type 0 where
  pub taken : List ℕ
  pub most : ℕ
  pub room : ℕ
  pub calls : Calls

-- how many more bytes can be taken
abbrev pub room_left : SinkState → ℕ
room_left sink = sink.room - length sink.taken

-- how many bytes of a piece the next write takes: the least of the piece's length, `most` and the room left
abbrev pub share : SinkState → List ℕ → ℕ
share sink piece = min (min (length piece) sink.most) (room_left sink)

-- a write that takes n bytes from the front of the piece
abbrev pub with_front : SinkState → List ℕ → ℕ → SinkState
with_front sink piece n = record sink { taken = sink.taken ++ take n piece; calls = answered sink.calls }
