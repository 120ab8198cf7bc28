-- How a round and its seats are kept.
use Rattle.std.specs.Prelude.{◌≡◌, ℕ, ◌+◌, ◌<◌, ◌≤◌, ◌^◌, List, length, sum}
use Rattle.atomic_table.specs.Seated.{TableId}
use Rattle.lf_board.specs.Seats.{BoardFacts}
use Rattle.lf_rounds.specs.Facts.{RoundFacts}
use Rattle.lf_rounds.specs.Rounds.{task_of}
use Rattle.lf_rounds.specs.Tasks.{IsTask, names, width}
use Rattle.lf_rounds.specs.views.Noting.{ArePlaced}
use Rattle.lf_rounds.specs.declared.rule.About.{About}
use Rattle.lf_rounds.specs.declared.rule.RoundView.{RoundView}

-- a round beside its table: what it is over is told when it is made, the table has the claim word and the row words, and the sum of the row words at the start is kept
pub record IsKept (k : About) (table : TableId) (recorded : List ℕ) (read : List (List ℕ)) (numbers : List ℕ) (total wide : ℕ) : Type 0 where
  pub task : IsTask (task_of k)
  pub reads : k.reads.value ≡ read
  pub pieces : k.pieces.value ≡ numbers
  pub summed : total ≡ sum k.start.value
  pub count : k.counts.pieces ≡ length numbers
  pub few : length numbers < 2 ^ 32
  pub seats : k.counts.seats ≤ 64
  pub words : table.words ≡ length k.start.value + 1
  pub fits : length k.start.value + 1 < 2 ^ 64
  pub slots : table.slots ≡ 0
  pub names : ArePlaced (names (task_of k)) (task_of k).rules recorded
  pub width : wide ≡ width (task_of k)

abbrev pub round_facts : About → TableId → List ℕ → RoundFacts
round_facts k table pieces = record { board = record { table = table; pieces = length pieces; seats = k.counts.seats }; universe = k.universe.value; rules = k.rules.value; reads = k.reads.value; pieces = k.pieces.value; start = k.start.value }

-- the board that a seat is of
abbrev pub board_at : TableId → RoundView → BoardFacts
board_at table v = record { table = table; pieces = v.board.pieces; seats = v.board.seats }
