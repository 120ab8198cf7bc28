use Rattle.std.proofs.Common.{◌≡◌, ◌<◌, ℕ, Option, [], ap, sym, ◌∙◌, subst}
use Rattle.std.specs.Result.{is_ok}
use Rattle.lf_rounds.specs.Facts.{RoundFacts, task}
use Rattle.lf_rounds.specs.Tasks.{width}
use Rattle.lf_rounds.specs.views.Working.{IsNext, left_of}
use Rattle.lf_rounds.proofs.Noting.{noted_on, noted_pushed, noted_same}
use Rattle.lf_rounds.proofs.Working.{claimed_done, fewer_left, next_after, none_more}
use Rattle.lf_rounds.proofs.round.Round.work_on_from.Goals as goal

pub loop-next-init : goal.loop-next-init
loop-next-init g c = record {
  used = c.requires.used;
  env = c.requires.env;
  room = (let same : c.self.inside.width ≡ width (task c.args.self.now) = c.self.invariant.width ∙ ap (λ (f : RoundFacts). width (task f)) c.self.view_is in (c.in_ok-room.ensures.0 ∙ same, c.in_ok-room.ensures.1 ∙ same));
  noted = c.requires.noted;
  next = (c.requires.piece, c.requires.begins, [], none_more c.args.seat.now.me.0.board);
}

pub returns-in_err-note-clause-noted : goal.returns-in_err-note-clause-noted
returns-in_err-note-clause-noted g c = noted_on c.loop-next.seat.me.0 c.work_on.new.seat.me.0 c.loop-next.notes.items c.work_on.ensures.did c.loop-next.invariant.noted

pub loop-next-smaller : goal.loop-next-smaller
loop-next-smaller g c =
    let count = c.args.self.now.board.pieces in
    let v = c.args.seat.now.me.0 in
    let w = c.loop-next.seat.me.0 in
    let u = c.work_on.new.seat.me.0 in
    let x = c.claim-next.new.seat.me.0 in
    let N : Option ℕ → Type 0 = λ n. IsNext count v n w in
    let L : Option ℕ → Type 0 = λ n. left_of count c.claim-next.result x < left_of count n w in
    subst L (sym c.in-Some.is) (fewer_left count v w u x c.in-Some.piece (subst N c.in-Some.is c.loop-next.invariant.next) c.work_on.ensures.board c.in_ok-note.ensures.done c.claim-next.result c.claim-next.ensures.number c.claim-next.ensures.left)

pub loop-next-preserved : goal.loop-next-preserved
loop-next-preserved g c =
    let count = c.args.self.now.board.pieces in
    let v = c.args.seat.now.me.0 in
    let w = c.loop-next.seat.me.0 in
    let u = c.work_on.new.seat.me.0 in
    let x = c.claim-next.new.seat.me.0 in
    let N : Option ℕ → Type 0 = λ n. IsNext count v n w in
    let notes = c.push.new.self.items in
    let noted = noted_pushed u.done c.loop-next.notes.items notes c.in_ok-note.note (is_ok c.push.result) c.push.ensures.items c.in_ok-note.ensures.noted (noted_on w u c.loop-next.notes.items c.work_on.ensures.did c.loop-next.invariant.noted) in
    record {
      used = c.claim-next.ensures.used;
      env = c.in_ok-note.ensures.env;
      room = c.work_on.ensures.room;
      noted = noted_same u.done x.done notes (claimed_done u x count c.claim-next.result c.claim-next.ensures.number) noted;
      next = next_after count v w u x c.in-Some.piece (subst N c.in-Some.is c.loop-next.invariant.next) c.work_on.ensures.board c.in_ok-note.ensures.done c.claim-next.result c.claim-next.ensures.number;
    }
