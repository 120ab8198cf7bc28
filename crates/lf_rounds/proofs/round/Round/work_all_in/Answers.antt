use Rattle.lf_rounds.proofs.Noting.{noted_same}
use Rattle.lf_rounds.proofs.Working.{claimed_done}
use Rattle.lf_rounds.proofs.round.Round.work_all_in.Goals as goal

pub work_on_from-requires-clause-noted : goal.work_on_from-requires-clause-noted
work_on_from-requires-clause-noted g c =
    let u = c.args.seat.now.me.0 in
    let x = c.claim.new.seat.me.0 in
    noted_same u.done x.done c.args.notes.now.items (claimed_done u x c.args.self.now.board.pieces c.claim.result c.claim.ensures.number) c.requires.noted

pub returns-in-None-clause-noted : goal.returns-in-None-clause-noted
returns-in-None-clause-noted g c =
    let u = c.args.seat.now.me.0 in
    let x = c.claim.new.seat.me.0 in
    noted_same u.done x.done c.args.notes.now.items (claimed_done u x c.args.self.now.board.pieces c.claim.result c.claim.ensures.number) c.requires.noted
