use Rattle.std.proofs.Common.{ap, sym, ◌∙◌, eqb-true, arith}
use Rattle.lf_board.specs.Seats.{BoardFacts, SeatFacts}
use Rattle.lf_board.proofs.Steps.{splits}
use Rattle.lf_board.proofs.board.Board.cut.Goals as goal

pub split_seat-part-requires : goal.split_seat-part-requires
split_seat-part-requires g c =
    let same = ap (λ (f : SeatFacts). f.board) c.seat.view_is ∙ c.requires.own ∙ sym c.self.view_is in
    let still_open = sym c.seat.invariant.2 ∙ (ap (λ (f : SeatFacts). f.is_open) c.seat.view_is ∙ c.requires.open) in
    let room = ap (λ (f : SeatFacts). f.room) c.seat.view_is in
    (ap (λ (b : BoardFacts). b.table) same, omega arith, splits c.self.inside.table.shared.key c.seat.inside.seat.id g.C.Cutting.room c.seat.inside.seat.me.0 (eqb-true c.seat.inside.seat.me.0.missed 0 still_open) (omega arith))
