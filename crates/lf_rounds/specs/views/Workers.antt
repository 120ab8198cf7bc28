-- What workers are given, and how they leave their seats.
use Rattle.std.specs.Prelude.{◌≡◌, true, false, List}
use Rattle.lf_ast.specs.declared.rule.Rule.{Rule}
use Rattle.lf_rounds.specs.Facts.{RoundFacts, RoundSeatFacts}
use Rattle.lf_semantics.specs.Listing.{Listing}

-- The universe and the rules are those of the round.
abbrev pub IsOf : RoundFacts → Listing → List Rule → Type 0
IsOf round u rules = (u ≡ round.universe) × (rules ≡ round.rules)

-- A seat of this round that may claim.
abbrev pub IsFresh : RoundFacts → RoundSeatFacts → Type 0
IsFresh round seat = (seat.board ≡ round.board) × (seat.is_open ≡ true) × (seat.is_whole ≡ true)

-- The seat is as before, but that a claim found nothing, and all that it claimed is done.
abbrev pub IsShut : RoundSeatFacts → RoundSeatFacts → Type 0
IsShut seat done = (done.board ≡ seat.board) × (done.is_open ≡ false) × (done.is_whole ≡ true) × (done.room ≡ seat.room)
