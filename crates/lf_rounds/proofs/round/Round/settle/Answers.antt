use Rattle.std.proofs.Common.{◌≡◌, ◌-◌, ℕ, List, drop, length, refl, ap, sym, ◌∙◌, subst}
use Rattle.lf_ast.specs.Rules.{rule_trees}
use Rattle.lf_board.specs.Numbers.{AreNumbersBelow}
use Rattle.lf_rounds.specs.Facts.{RoundFacts, RoundSeatFacts, task}
use Rattle.lf_classes.specs.RowWords.{WordsLeq}
use Rattle.lf_rounds.specs.Tasks.{AreReads, HoldRules, IsBelowLeast, IsTask, names}
use Rattle.lf_rounds.specs.views.Noting.{AreMadeBy, ArePlaced}
use Rattle.lf_rounds.proofs.Allowed.{made_words}
use Rattle.lf_rounds.proofs.Closing.{ends_round}
use Rattle.std.proofs.lemmas.Bool.{not-true}
use Rattle.lf_board.proofs.Sums.{missed_some}
use Rattle.lf_rounds.proofs.round.Round.settle.Goals as goal

pub returns-in_err-words-clause-claims : goal.returns-in_err-words-clause-claims
returns-in_err-words-clause-claims c =
    let last = c.close_with-closed.ensures.values.2 in
    let k = c.self.inside.table.shared.key in
    let s = c.seat.inside.seat in
    let v = s.me.0 in
    let shown = c.self.view_is in
    let seat = c.seat.view_is in
    let idle = not-true v.busy (ap (λ (f : RoundSeatFacts). f.is_whole) seat ∙ c.requires.shut.1) in
    let shut = missed_some v.board.missed c.seat.inside.is_open c.seat.invariant.2 (ap (λ (f : RoundSeatFacts). f.is_open) seat ∙ c.requires.shut.0) in
    let room = ap (λ (f : RoundSeatFacts). f.room) seat ∙ c.requires.last ∙ sym (ap (λ (f : RoundFacts). f.board.seats - 1) shown) in
    let count = ap (λ (l : List ℕ). length l) c.self.invariant.pieces ∙ sym c.self.invariant.count in
    let end = ends_round k s.id v last.0.words (drop 1 last.0.words) last.0.views c.self.invariant.task count refl last.1.0 last.1.1 idle c.seat.invariant.0 room shut in
    let pieces = c.self.invariant.count ∙ ap (λ (f : RoundFacts). f.board.pieces) shown in
    let N : ℕ × List ℕ → Type 0 = λ x. AreNumbersBelow x.0 x.1 in
    subst N (λ i. (pieces i, ap (λ (f : RoundSeatFacts). f.claims) seat i)) end.claims_all

pub returns-clause-claims : goal.returns-clause-claims
returns-clause-claims c =
    let last = c.close_with-closed.ensures.values.2 in
    let k = c.self.inside.table.shared.key in
    let s = c.seat.inside.seat in
    let v = s.me.0 in
    let shown = c.self.view_is in
    let seat = c.seat.view_is in
    let idle = not-true v.busy (ap (λ (f : RoundSeatFacts). f.is_whole) seat ∙ c.requires.shut.1) in
    let shut = missed_some v.board.missed c.seat.inside.is_open c.seat.invariant.2 (ap (λ (f : RoundSeatFacts). f.is_open) seat ∙ c.requires.shut.0) in
    let room = ap (λ (f : RoundSeatFacts). f.room) seat ∙ c.requires.last ∙ sym (ap (λ (f : RoundFacts). f.board.seats - 1) shown) in
    let count = ap (λ (l : List ℕ). length l) c.self.invariant.pieces ∙ sym c.self.invariant.count in
    let end = ends_round k s.id v last.0.words (drop 1 last.0.words) last.0.views c.self.invariant.task count refl last.1.0 last.1.1 idle c.seat.invariant.0 room shut in
    let pieces = c.self.invariant.count ∙ ap (λ (f : RoundFacts). f.board.pieces) shown in
    let N : ℕ × List ℕ → Type 0 = λ x. AreNumbersBelow x.0 x.1 in
    subst N (λ i. (pieces i, ap (λ (f : RoundSeatFacts). f.claims) seat i)) end.claims_all

pub returns-clause-ends : goal.returns-clause-ends
returns-clause-ends c =
    let last = c.close_with-closed.ensures.values.2 in
    let k = c.self.inside.table.shared.key in
    let s = c.seat.inside.seat in
    let v = s.me.0 in
    let shown = c.self.view_is in
    let seat = c.seat.view_is in
    let idle = not-true v.busy (ap (λ (f : RoundSeatFacts). f.is_whole) seat ∙ c.requires.shut.1) in
    let shut = missed_some v.board.missed c.seat.inside.is_open c.seat.invariant.2 (ap (λ (f : RoundSeatFacts). f.is_open) seat ∙ c.requires.shut.0) in
    let room = ap (λ (f : RoundSeatFacts). f.room) seat ∙ c.requires.last ∙ sym (ap (λ (f : RoundFacts). f.board.seats - 1) shown) in
    let count = ap (λ (l : List ℕ). length l) c.self.invariant.pieces ∙ sym c.self.invariant.count in
    let words = c.in_ok-words.words in
    let end = ends_round k s.id v last.0.words words last.0.views c.self.invariant.task count (c.in_ok-words.ensures.words ∙ ap (drop 1) (sym last.2)) last.1.0 last.1.1 idle c.seat.invariant.0 room shut in
    let T : RoundFacts → Type 0 = λ f. IsTask (task f) in
    let L : RoundFacts → Type 0 = λ f. length words ≡ length f.start in
    let A : RoundFacts → Type 0 = λ f. WordsLeq f.start words in
    let H : RoundFacts → Type 0 = λ f. HoldRules f.universe (rule_trees f.rules) words f.start in
    let B : RoundFacts → Type 0 = λ f. IsBelowLeast f.universe (rule_trees f.rules) words in
    record { task = subst T shown c.self.invariant.task; wide = subst L shown end.wide; above = subst A shown end.above; held = subst H shown end.held; below = subst B shown end.below }

pub returns-clause-known : goal.returns-clause-known
returns-clause-known c =
    let shown = c.self.view_is in
    let N : RoundFacts → Type 0 = λ f. ArePlaced (names (task f)) (task f).rules c.self.inside.known.names in
    let names = subst N shown c.self.invariant.names in
    let R : RoundFacts → Type 0 = λ f. AreReads (rule_trees f.rules) f.reads in
    let read = subst R shown c.self.invariant.task.reads in
    let D : List (List ℕ) → Type 0 = λ reads. AreReads (rule_trees c.args.self.rules) reads in
    record { names = names; reads = subst D (sym (ap (λ (f : RoundFacts). f.reads) shown) ∙ c.self.invariant.reads) read }

pub returns-clause-over : goal.returns-clause-over
returns-clause-over c =
    let shown = c.self.view_is in
    (sym c.self.invariant.reads ∙ ap (λ (f : RoundFacts). f.reads) shown, sym c.self.invariant.pieces ∙ ap (λ (f : RoundFacts). f.pieces) shown)

pub returns-clause-made : goal.returns-clause-made
returns-clause-made c =
    let last = c.close_with-closed.ensures.values.2 in
    let k = c.self.inside.table.shared.key in
    let s = c.seat.inside.seat in
    let words = c.in_ok-words.words in
    let made = made_words k s.id s.me.0 last.0.words last.0.views last.1.0 last.1.1 c.seat.inside.notes.items c.seat.invariant.3 in
    let M : RoundFacts × List ℕ → Type 0 = λ x. AreMadeBy (task x.0) x.1 c.seat.inside.notes.items in
    let same : drop 1 last.0.words ≡ words = sym (c.in_ok-words.ensures.words ∙ ap (drop 1) (sym last.2)) in
    subst M (λ i. (c.self.view_is i, same i)) made
