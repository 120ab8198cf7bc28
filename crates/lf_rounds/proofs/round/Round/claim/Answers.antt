use Rattle.std.proofs.Common.{◌<◌, ap, sym, ◌∙◌, arith}
use Rattle.lf_board.specs.Seats.{BoardFacts}
use Rattle.lf_rounds.specs.Facts.{RoundFacts}
use Rattle.lf_rounds.proofs.Allowed.{may_claim}
use Rattle.lf_rounds.proofs.round.Round.claim.Goals as goal

pub fetch_add-found-requires : goal.fetch_add-found-requires
fetch_add-found-requires c =
    let r = c.self.inside.table.shared in
    let k = r.key in
    let s = c.args.seat.now in
    let own = c.requires.used.own ∙ sym (ap (λ (f : RoundFacts). f.board) c.self.view_is) in
    let small : k.counts.pieces < 4294967296 = omega (arith, c.self.invariant.count, c.self.invariant.few) in
    (ap (λ (b : BoardFacts). b.table) own, omega (arith, c.self.invariant.words), may_claim k s.id s.me small c.self.invariant.seats c.requires.idle c.requires.used.live c.requires.open r.table_id.slots)
