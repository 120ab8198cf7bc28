-- Boards and their seats: what each of them is, and nothing of how it is kept.
use Rattle.std.specs.Prelude.{ℕ, Bool, List}
use Rattle.atomic_table.specs.Seated.{TableId}

-- A board: which one it is, and how many pieces and seats it has. No two boards have one table.
pub record BoardFacts : Type 0 where
  pub table : TableId
  pub pieces : ℕ
  pub seats : ℕ

-- A seat: its board, whether each of its claims got a piece, how many seats may still be split off it, and the pieces that it claimed, in order.
pub record SeatFacts : Type 0 where
  pub board : BoardFacts
  pub is_open : Bool
  pub room : ℕ
  pub claims : List ℕ
