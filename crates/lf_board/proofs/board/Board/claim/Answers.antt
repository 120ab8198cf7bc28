use Rattle.std.proofs.Common.{◌^◌, ◌<◌, ap, sym, ◌∙◌, eqb-true, arith}
use Rattle.lf_board.specs.Seats.{BoardFacts, SeatFacts}
use Rattle.lf_board.proofs.Steps.{takes_at}
use Rattle.lf_board.proofs.board.Board.claim.Goals as goal

pub fetch_add-found-requires : goal.fetch_add-found-requires
fetch_add-found-requires c =
    let same = ap (λ (f : SeatFacts). f.board) c.seat.view_is ∙ c.requires.own ∙ sym c.self.view_is in
    let still_open = sym c.seat.invariant.2 ∙ (ap (λ (f : SeatFacts). f.is_open) c.seat.view_is ∙ c.requires.open) in
    let k = c.self.inside.table.shared.key in
    let small : k.pieces < 2 ^ 32 = omega arith in
    (ap (λ (b : BoardFacts). b.table) same, omega arith, takes_at k small c.self.invariant.4 c.self.inside.table.shared.table_id.slots c.self.invariant.2 c.seat.inside.seat.id c.seat.inside.seat.me c.seat.invariant.0 (eqb-true c.seat.inside.seat.me.0.missed 0 still_open))
