use Rattle.std.proofs.Common.{◌≡◌, ◌+◌, ◌<◌, length, ap, sym, ◌∙◌, subst, arith}
use Rattle.lf_board.specs.Seats.{BoardFacts}
use Rattle.lf_rounds.specs.Facts.{RoundFacts, task}
use Rattle.lf_rounds.specs.Rounds.{IsSummed, noted, task_of}
use Rattle.lf_rounds.specs.Tasks.{place_of, stored_word, width}
use Rattle.lf_rounds.proofs.Allowed.{may_finish}
use Rattle.lf_rounds.proofs.round.Round.finish.Goals as goal

pub fetch_or-requires : goal.fetch_or-requires
fetch_or-requires c =
    let r = c.self.inside.table.shared in
    let k = r.key in
    let s = c.args.seat.now in
    let v = s.me.0 in
    let own = c.requires.used.own ∙ sym (ap (λ (f : RoundFacts). f.board) c.self.view_is) in
    let long = ap (λ (f : RoundFacts). length f.start) c.self.view_is in
    let within : c.args.place < length (task_of k).start = omega (arith, c.requires.within, long) in
    let place : c.args.place ≡ place_of (task_of k) v.piece v.raised = c.requires.place ∙ sym (ap (λ (f : RoundFacts). place_of (task f) v.piece v.raised) c.self.view_is) in
    let word : c.args.word ≡ stored_word (task_of k) v.piece (noted (task_of k).start v.loads) v.raised =
    c.requires.word ∙ sym (ap (λ (f : RoundFacts). stored_word (task f) v.piece (noted f.start v.loads) v.raised) c.self.view_is) in
    let wide = ap (λ (f : RoundFacts). width (task f)) c.self.view_is in
    let S : RoundFacts → Type 0 = λ f. IsSummed (task f) (record { piece = v.piece; loads = v.loads }) in (
      ap (λ (b : BoardFacts). b.table) own,
      omega (arith, c.requires.within, long, c.self.invariant.words),
      may_finish k s.id s.me c.args.place within c.requires.work.0 c.self.invariant.task c.requires.used.live c.args.word place word r.table_id.slots (c.args.place + 1) (omega arith) (omega (arith, wide, c.requires.work.1)) (subst S (sym c.self.view_is) c.requires.summed),
    )

pub overflow_add-place : goal.overflow_add-place
overflow_add-place c =
    omega (arith, c.requires.within, ap (λ (f : RoundFacts). length f.start) c.self.view_is, c.self.invariant.fits)
