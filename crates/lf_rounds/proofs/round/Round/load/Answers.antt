use Rattle.std.proofs.Common.{◌+◌, ◌<◌, length, ap, sym, ◌∙◌, arith}
use Rattle.lf_board.specs.Seats.{BoardFacts}
use Rattle.lf_rounds.specs.Facts.{RoundFacts}
use Rattle.lf_rounds.specs.Rounds.{task_of}
use Rattle.lf_rounds.proofs.Allowed.{may_load}
use Rattle.lf_rounds.proofs.round.Round.load.Goals as goal

pub load-requires : goal.load-requires
load-requires c =
    let r = c.self.inside.table.shared in
    let k = r.key in
    let s = c.args.seat.now in
    let own = c.requires.used.own ∙ sym (ap (λ (f : RoundFacts). f.board) c.self.view_is) in
    let long = ap (λ (f : RoundFacts). length f.start) c.self.view_is in
    let within : c.args.place < length (task_of k).start = omega (arith, c.requires.place, long) in
    (ap (λ (b : BoardFacts). b.table) own, omega (arith, c.requires.place, long, c.self.invariant.words), may_load k s.id s.me c.args.place within c.requires.work.0 r.table_id.slots (c.args.place + 1) (omega arith) c.requires.work.1)

pub overflow_add-place : goal.overflow_add-place
overflow_add-place c =
    omega (arith, c.requires.place, ap (λ (f : RoundFacts). length f.start) c.self.view_is, c.self.invariant.fits)
