-- Rounds and their seats: what each of them is, and nothing of how it is kept.
use Rattle.std.specs.Prelude.{◌≡◌, ℕ, ◌-◌, Bool, true, List, [], length}
use Rattle.lf_ast.specs.Rules.{rule_trees}
use Rattle.lf_ast.specs.declared.rule.Rule.{Rule}
use Rattle.lf_board.specs.Seats.{BoardFacts}
use Rattle.lf_semantics.specs.Listing.{Listing}
use Rattle.lf_rounds.specs.Tasks.{AreTaskPieces, Task}

-- A round: its board, which says which round it is and how many pieces and seats it has, and what it is over. `reads` are of each rule the numbers of the names that it reads.
pub record RoundFacts : Type 0 where
  pub board : BoardFacts
  pub universe : Listing
  pub rules : List Rule
  pub reads : List (List ℕ)
  pub pieces : List ℕ
  pub start : List ℕ

abbrev pub task : RoundFacts → Task
task round = record { universe = round.universe; rules = rule_trees round.rules; reads = round.reads; pieces = round.pieces; start = round.start }

-- A seat: the board of its round, whether each of its claims got a piece, whether no piece is left in work, how many seats may still be split off it, and the pieces that it
-- claimed, in order.
pub record RoundSeatFacts : Type 0 where
  pub board : BoardFacts
  pub is_open : Bool
  pub is_whole : Bool
  pub room : ℕ
  pub claims : List ℕ

-- The round is over this universe, these rules and these words: its pieces are the recording rules in order.
pub record IsOver (u : Listing) (all : List Rule) (words : List ℕ) (places : ℕ) (round : RoundFacts) : Type 0 where
  pub universe : round.universe ≡ u
  pub rules : round.rules ≡ all
  pub start : round.start ≡ words
  pub pieces : AreTaskPieces (rule_trees all) round.pieces
  pub count : round.board.pieces ≡ length round.pieces
  pub seats : round.board.seats ≡ places

-- The round is over this universe, these rules and these words, and has these pieces.
pub record IsOverDue (u : Listing) (all : List Rule) (read : List (List ℕ)) (due words : List ℕ) (places : ℕ) (round : RoundFacts) : Type 0 where
  pub universe : round.universe ≡ u
  pub rules : round.rules ≡ all
  pub start : round.start ≡ words
  pub reads : round.reads ≡ read
  pub pieces : round.pieces ≡ due
  pub count : round.board.pieces ≡ length round.pieces
  pub seats : round.board.seats ≡ places

-- The first seat of a round may come to all seats, and has claimed nothing.
abbrev pub first_seat : RoundFacts → RoundSeatFacts
first_seat round = record { board = round.board; is_open = true; is_whole = true; room = round.board.seats - 1; claims = [] }
