use Rattle.std.proofs.Common.{ap, sym, ◌∙◌, arith}
use Rattle.lf_board.specs.Seats.{BoardFacts, SeatFacts}
use Rattle.lf_board.proofs.Steps.{joins}
use Rattle.lf_board.proofs.board.Board.join.Goals as goal

pub join_seat-requires : goal.join_seat-requires
join_seat-requires c =
    let same = ap (λ (f : SeatFacts). f.board) c.seat.view_is ∙ c.requires.own.0 ∙ sym c.self.view_is in
    let theirs = ap (λ (f : SeatFacts). f.board) c.other.view_is ∙ c.requires.own.1 ∙ sym c.self.view_is in
    (ap (λ (b : BoardFacts). b.table) same, ap (λ (b : BoardFacts). b.table) theirs, c.other.invariant.1, omega arith, joins c.self.inside.table.shared.key c.seat.inside.seat.id c.other.inside.seat.id c.seat.inside.seat.me.0 c.other.inside.seat.me.0 c.seat.invariant.0)
