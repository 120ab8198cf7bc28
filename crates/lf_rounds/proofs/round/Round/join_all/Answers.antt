use Rattle.std.proofs.Common.{◌==◌, ◌++◌, List, subst, ap, sym, ◌∙◌, arith}
use Rattle.lf_board.specs.Seats.{BoardFacts}
use Rattle.lf_rounds.specs.Facts.{RoundFacts, RoundSeatFacts}
use Rattle.lf_rounds.specs.views.Noting.{AreNoted}
use Rattle.lf_rounds.specs.views.Working.{Mine}
use Rattle.lf_rounds.proofs.Allowed.{may_join}
use Rattle.lf_rounds.proofs.Noting.{noted_both, noted_left, noted_same}
use Rattle.std.proofs.lemmas.Bool.{not-true}
use Rattle.lf_rounds.specs.declared.rule.Loaded.{Loaded}
use Rattle.lf_rounds.proofs.Seated.{both_open}
use Rattle.lf_rounds.proofs.round.Round.join_all.Goals as goal

pub join_seat-requires : goal.join_seat-requires
join_seat-requires c =
    let k = c.self.inside.table.shared.key in
    let s = c.seat.inside.seat in
    let o = c.other.inside.seat in
    let round = sym (ap (λ (f : RoundFacts). f.board) c.self.view_is) in
    let mine = ap (λ (f : RoundSeatFacts). f.board) c.seat.view_is ∙ c.requires.own.0 ∙ round in
    let theirs = ap (λ (f : RoundSeatFacts). f.board) c.other.view_is ∙ c.requires.own.1 ∙ round in
    let idle = not-true s.me.0.busy (ap (λ (f : RoundSeatFacts). f.is_whole) c.seat.view_is ∙ c.requires.whole.0) in
    let idle' = not-true o.me.0.busy (ap (λ (f : RoundSeatFacts). f.is_whole) c.other.view_is ∙ c.requires.whole.1) in
    (ap (λ (b : BoardFacts). b.table) mine, ap (λ (b : BoardFacts). b.table) theirs, c.other.invariant.1, omega (arith, c.self.invariant.words), may_join k s.id s.me.0 o.id o.me.0 c.seat.invariant.0 idle idle')

pub invariant_of-seat : goal.invariant_of-seat
invariant_of-seat c =
    let v = c.seat.inside.seat.me.0 in
    let w = c.other.inside.seat.me.0 in
    let me = c.join_seat.ensures.2 in (
      omega (arith, ap (λ (m : Mine). m.0.board.share) me, c.seat.invariant.0),
      ap (λ (m : Mine). m.1) me ∙ c.seat.invariant.1,
      c.both-seat-inside.ensures ∙ both_open c.seat.inside.is_open c.other.inside.is_open v.board.missed w.board.missed c.seat.invariant.2 c.other.invariant.2 ∙ sym (ap (λ (m : Mine). m.0.board.missed == 0) me),
      noted_same (v.done ++ w.done) c.join_seat.new.seat.me.0.done c.extend_from_slice.new.self.items (ap (λ (m : Mine). m.0.done) me)
          (let L : List Loaded → Type 0 = λ l. AreNoted (v.done ++ w.done) l in subst L (sym c.in_err-extend_from_slice.ensures.items) (noted_left v.done w.done c.seat.inside.notes.items c.seat.invariant.3)),
    )

pub invariant_of-seat-2 : goal.invariant_of-seat-2
invariant_of-seat-2 c =
    let v = c.seat.inside.seat.me.0 in
    let w = c.other.inside.seat.me.0 in
    let me = c.join_seat.ensures.2 in (
      omega (arith, ap (λ (m : Mine). m.0.board.share) me, c.seat.invariant.0),
      ap (λ (m : Mine). m.1) me ∙ c.seat.invariant.1,
      c.both-seat-inside.ensures ∙ both_open c.seat.inside.is_open c.other.inside.is_open v.board.missed w.board.missed c.seat.invariant.2 c.other.invariant.2 ∙ sym (ap (λ (m : Mine). m.0.board.missed == 0) me),
      noted_same (v.done ++ w.done) c.join_seat.new.seat.me.0.done c.extend_from_slice.new.self.items (ap (λ (m : Mine). m.0.done) me)
          (let L : List Loaded → Type 0 = λ l. AreNoted (v.done ++ w.done) l in subst L (sym (c.in_ok-extend_from_slice.ensures.items ∙ ap (λ (l : List Loaded). c.seat.inside.notes.items ++ l) c.as_slice.ensures.value)) (noted_both v.done w.done c.seat.inside.notes.items c.other.inside.notes.items c.seat.invariant.3 c.other.invariant.3)),
    )
