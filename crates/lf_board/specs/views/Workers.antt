-- What workers are given, and what they have done.
use Rattle.std.specs.Prelude.{◌≡◌, ℕ, ◌+◌, ◌<◌, ◌≤◌, true, false, List, [], Ok, All}
use Rattle.lf_board.specs.declared.pieces.Piece.{Piece}
use Rattle.lf_board.specs.declared.workers.DonePieces.{DonePieces}
use Rattle.lf_board.specs.Pieces.{Work, numbers_of}
use Rattle.lf_board.specs.Seats.{BoardFacts, SeatFacts}

-- A seat of this board that may claim, and has claimed nothing yet.
abbrev pub IsFresh : BoardFacts → SeatFacts → Type 0
IsFresh board seat = (seat.board ≡ board) × (seat.is_open ≡ true) × (seat.claims ≡ [])

-- So many workers may be given seats by a seat with this room, itself included.
abbrev pub HasRoomFor : ℕ → ℕ → Type 0
HasRoomFor workers room = (0 < workers) × (workers ≤ room + 1)

-- The seat when these were its claims, and one more found nothing.
abbrev pub closed_with : SeatFacts → List ℕ → SeatFacts
closed_with seat claims = record seat { is_open = false; claims = claims }

-- The work gives the value of each piece at its number.
abbrev pub IsWorkOf : {F T : Type 0} → Work F T → F → List (Piece T) → Type 0
IsWorkOf g work pieces = All (λ p. g.post work (p.number, tt) (Ok p.value)) pieces

-- The seat of workers was this one, its claims are now the pieces, and the work gives the value of each.
abbrev pub IsDone : {F T : Type 0} → Work F T → F → SeatFacts → DonePieces T → Type 0
IsDone g work seat done = (done.seat ≡ closed_with seat (numbers_of done.pieces.items)) × IsWorkOf g work done.pieces.items
