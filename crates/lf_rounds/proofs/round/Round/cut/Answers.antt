use Rattle.std.proofs.Common.{◌==◌, ap, sym, ◌∙◌, eqb-true, arith}
use Rattle.lf_board.specs.Seats.{BoardFacts}
use Rattle.lf_rounds.specs.Facts.{RoundFacts, RoundSeatFacts}
use Rattle.lf_rounds.specs.views.Working.{Mine}
use Rattle.lf_rounds.proofs.Allowed.{may_split}
use Rattle.lf_rounds.proofs.Noting.{noted_same}
use Rattle.lf_rounds.proofs.round.Round.cut.Goals as goal

pub split_seat-part-requires : goal.split_seat-part-requires
split_seat-part-requires g c =
    let k = c.self.inside.table.shared.key in
    let s = c.seat.inside.seat in
    let own = ap (λ (f : RoundSeatFacts). f.board) c.seat.view_is ∙ c.requires.own ∙ sym (ap (λ (f : RoundFacts). f.board) c.self.view_is) in
    let still_open = sym c.seat.invariant.2 ∙ (ap (λ (f : RoundSeatFacts). f.is_open) c.seat.view_is ∙ c.requires.open.0) in
    let room = ap (λ (f : RoundSeatFacts). f.room) c.seat.view_is in
    (ap (λ (b : BoardFacts). b.table) own, omega (arith, c.self.invariant.words), may_split k s.id s.me.0 g.C.Cutting.room (eqb-true s.me.0.board.missed 0 still_open) (omega arith))

pub invariant_of-seat : goal.invariant_of-seat
invariant_of-seat g c =
    let v = c.seat.inside.seat.me.0 in
    let me = c.split_seat-part.ensures.2 in
    let room = ap (λ (f : RoundSeatFacts). f.room) c.seat.view_is in (
      omega (arith, ap (λ (m : Mine). m.0.board.share) me, c.requires.picked, c.requires.room, room, c.seat.invariant.0),
      ap (λ (m : Mine). m.1) me ∙ c.seat.invariant.1,
      c.seat.invariant.2 ∙ sym (ap (λ (m : Mine). m.0.board.missed == 0) me),
      noted_same v.done c.split_seat-part.new.seat.me.0.done c.seat.inside.notes.items (ap (λ (m : Mine). m.0.done) me) c.seat.invariant.3,
    )
