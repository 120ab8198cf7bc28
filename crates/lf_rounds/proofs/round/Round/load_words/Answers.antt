use Rattle.std.proofs.Common.{◌≡◌, ◌+◌, ◌*◌, ◌<◌, ◌≤◌, List, ℕ, length, get_or, set, take, length-set, ap, sym, ◌∙◌, subst, arith}
use Rattle.std.proofs.lemmas.List.{get_or-take, length-take-le, take_all}
use Rattle.std.specs.List.{sum}
use Rattle.lf_rounds.specs.Facts.{RoundFacts, task}
use Rattle.lf_rounds.specs.Rounds.{noted}
use Rattle.lf_rounds.specs.Sums.{sum_of_loads}
use Rattle.lf_rounds.specs.Tasks.{IsTask, width}
use Rattle.lf_rounds.specs.declared.rule.RoundView.{RoundView}
use Rattle.lf_rounds.specs.views.Working.{seen}
use Rattle.lf_rounds.proofs.Loading.{all_read, loads_more, noted_same, others_more, read_more, row_within, written_more}
use Rattle.lf_rounds.proofs.WordSteps.{length-noted}
use Rattle.lf_rounds.proofs.round.Round.load_words.Goals as goal

pub loop-k-preserved : goal.loop-k-preserved
loop-k-preserved c =
    let round = c.args.self.now in
    let l = c.loop-k in
    let inv = l.invariant in
    let number = c.args.number in
    let wide = c.self.inside.width in
    let at = number * wide in
    let same : wide ≡ width (task round) = c.self.invariant.width ∙ ap (λ (f : RoundFacts). width (task f)) c.self.view_is in
    let T : RoundFacts → Type 0 = λ f. IsTask (task f) in
    let is : IsTask (task round) = subst T c.self.view_is c.self.invariant.task in
    let before = seen round l.seat.me in
    let after = seen round c.load.new.seat.me in
    let long : length before ≡ length round.start = length-noted round.start l.seat.me.0.loads in
    let part : at + wide ≤ length round.start = omega (arith, row_within round is number c.requires.number, ap (λ n. number * n) same, same) in
    let within : at + l.k < length before = omega (arith, part, long, c.loop-k-test.true) in
    let eq : after ≡ set before (at + l.k) c.load.result = ap (λ (v : RoundView). noted round.start v.loads) c.load.ensures.noted in
    let h : l.k < width (task round) = omega (arith, c.loop-k-test.true, same) in
    let items = l.words.items in
    let room : l.k < length items = omega (arith, h, inv.full) in
    let read = take l.k items in
    let more = take (l.k + 1) (set items l.k c.load.result) in
    let pushed = written_more items l.k c.load.result room in
    let len : length read ≡ l.k = length-take-le l.k items (omega (arith, room)) in
    record {
      loads = ap (λ (v : RoundView). sum_of_loads v.loads) c.load.ensures.noted
          ∙ loads_more (sum_of_loads c.args.seat.now.me.0.loads) c.load.result (at + l.k) l.seat.me.0.loads read more pushed inv.loads;
      used = c.load.ensures.used;
      same = noted_same c.args.seat.now.me.0 l.seat.me.0 c.load.new.seat.me.0 (at + l.k) c.load.result inv.same c.load.ensures.noted;
      others = others_more before after (seen round c.args.seat.now.me) read more at l.k (width (task round)) c.load.result eq within h pushed len inv.others;
      full = length-set items l.k c.load.result ∙ inv.full;
      read = read_more before after (seen round c.args.seat.now.me) read more at l.k (width (task round)) c.load.result eq within h pushed len inv.read;
    }

pub returns-clause-words : goal.returns-clause-words
returns-clause-words c =
    let round = c.args.self.now in
    let l = c.loop-k in
    let inv = l.invariant in
    let number = c.args.number in
    let wide = c.self.inside.width in
    let same : wide ≡ width (task round) = c.self.invariant.width ∙ ap (λ (f : RoundFacts). width (task f)) c.self.view_is in
    let T : RoundFacts → Type 0 = λ f. IsTask (task f) in
    let is : IsTask (task round) = subst T c.self.view_is c.self.invariant.task in
    let all = seen round l.seat.me in
    let long : length all ≡ length round.start = length-noted round.start l.seat.me.0.loads in
    let items = l.words.items in
    all_read items all (number * width (task round)) (width (task round)) inv.full (omega (arith, row_within round is number c.requires.number, long))
    (λ j h. let less : j < l.k = omega (arith, h, same, c.loop-k-test.false, l.auto.k-end) in
    sym (get_or-take l.k items j 0 less) ∙ inv.read j less ∙ ap (λ w. get_or all (number * w + j) 0) same)

pub returns-clause-loads : goal.returns-clause-loads
returns-clause-loads c =
    let l = c.loop-k in
    let same : c.self.inside.width ≡ width (task c.args.self.now) = c.self.invariant.width ∙ ap (λ (f : RoundFacts). width (task f)) c.self.view_is in
    l.invariant.loads ∙ ap (λ (xs : List ℕ). sum_of_loads c.args.seat.now.me.0.loads + sum xs) (take_all l.k l.words.items (omega (arith, l.invariant.full, same, c.loop-k-test.false)))
