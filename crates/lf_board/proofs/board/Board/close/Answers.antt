use Rattle.std.proofs.Common.{ℕ, List, ap, ◌∙◌, subst, arith}
use Rattle.lf_board.specs.Numbers.{AreNumbersBelow}
use Rattle.lf_board.specs.Seats.{BoardFacts, SeatFacts}
use Rattle.lf_board.proofs.Steps.{ends}
use Rattle.lf_board.proofs.Sums.{missed_some}
use Rattle.lf_board.proofs.board.Board.close.Goals as goal

pub returns : goal.returns
returns c shut =
    let last = c.close_with.ensures.values.2 in
    let k = c.self.inside.table.shared.key in
    let v = c.seat.inside.seat.me.0 in
    let live = c.seat.invariant.0 in
    let room = ap (λ (f : SeatFacts). f.room) c.seat.view_is in
    let seats = ap (λ (b : BoardFacts). b.seats) c.self.view_is in
    let asked = c.requires.last in
    let pieces = ap (λ (b : BoardFacts). b.pieces) c.self.view_is in
    let claims = ap (λ (f : SeatFacts). f.claims) c.seat.view_is in
    let shut_inside = ap (λ (f : SeatFacts). f.is_open) c.seat.view_is ∙ shut in
    let got = ends k last.0 c.seat.inside.seat.id v last.1 live (omega arith) (missed_some v.missed c.seat.inside.is_open c.seat.invariant.2 shut_inside) in
    subst (λ (z : ℕ × List ℕ). AreNumbersBelow z.0 z.1) (λ i. ((c.self.invariant.0 ∙ pieces) i, claims i)) got
