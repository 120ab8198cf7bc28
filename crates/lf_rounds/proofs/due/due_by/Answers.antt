use Rattle.std.proofs.Common.{◌≡◌, ℕ, false, List, [], Some, get_or, sym, ◌∙◌, ap, subst}
use Rattle.std.specs.List.{Contains}
use Rattle.std.proofs.lemmas.Grind.{get_or_default_zero}
use Rattle.std.proofs.lemmas.List.{take_all}
use Rattle.std.proofs.lemmas.Option.{get_or_from_slice_get, slice_get-get_or}
use Rattle.lf_rounds.specs.Sums.{sum_of_rows}
use Rattle.lf_rounds.specs.views.Standings.{AreRowSums, IsCurrent}
use Rattle.lf_rounds.proofs.DueRules.{due_others, due_some, neither}
use Rattle.lf_rounds.proofs.due.due_by.Goals as goal

pub get-requires : goal.get-requires
get-requires c =
    let items : List ℕ = c.as_slice-number-items.result.now in
    let i : ℕ = c.loop-number.number-index in
    let P : List ℕ → Type 0 = λ l. Contains l (get_or items i 0) in
    (c.requires.within (get_or items i 0) (subst P c.as_slice-number-items.ensures (i, c.loop-number-test.true, get_or_default_zero items i (get_or items i 0) c.loop-number-test.true))).0

pub get-numbers-requires : goal.get-numbers-requires
get-numbers-requires c =
    let items : List ℕ = c.as_slice-number-items.result.now in
    let i : ℕ = c.loop-number.number-index in
    let P : List ℕ → Type 0 = λ l. Contains l (get_or items i 0) in
    (c.requires.within (get_or items i 0) (subst P c.as_slice-number-items.ensures (i, c.loop-number-test.true, get_or_default_zero items i (get_or items i 0) c.loop-number-test.true))).1

pub bounds-last-k : goal.bounds-last-k
bounds-last-k c =
    let items : List ℕ = c.as_slice-number-items.result.now in
    let i : ℕ = c.loop-number.number-index in
    let P : List ℕ → Type 0 = λ l. Contains l (get_or items i 0) in
    (c.requires.within (get_or items i 0) (subst P c.as_slice-number-items.ensures (i, c.loop-number-test.true, get_or_default_zero items i (get_or items i 0) c.loop-number-test.true))).2

pub loop-number-preserved : goal.loop-number-preserved
loop-number-preserved c =
    let items : List ℕ = c.as_slice-number-items.result.now in
    let i : ℕ = c.loop-number.number-index in
    let number : ℕ = get_or items i 0 in
    let P : List ℕ → Type 0 = λ l. Contains l number in
    let there = subst P c.as_slice-number-items.ensures (i, c.loop-number-test.true, get_or_default_zero items i number c.loop-number-test.true) in
    let due : List ℕ = c.loop-number.due in
    let more : List ℕ = c.add_due.new.due in
    let current : (wide : ℕ) (words : List ℕ) → AreRowSums wide words c.args.sums.now → c.either-test.result ≡ false → IsCurrent wide words c.args.known.now.reads c.args.last.now number =
    λ wide words sums e. slice_get-get_or c.args.last.now number _ (c.requires.within number there).2
    ∙ ap Some (c.is_due-changed.ensures wide words sums (neither c.is_due-changed.result c.is_marked.result (sym c.either-test.ensures ∙ e)) ∙ ap (λ (l : List ℕ). Some (sum_of_rows wide words l)) (c.as_slice.ensures ∙ sym (get_or_from_slice_get c.args.known.now.reads number c.get-numbers.result.now [] c.get-numbers.ensures.value))) in
    record {
      some = due_some c.args.all.now due more number c.either-test.result c.in_ok-add_due.ensures there c.loop-number.invariant.some;
      others = λ wide words sums. due_others (IsCurrent wide words c.args.known.now.reads c.args.last.now) items due more i c.either-test.result c.loop-number-test.true c.in_ok-add_due.ensures (λ e. current wide words sums e) (c.loop-number.invariant.others wide words sums);
    }

pub returns-clause-others : goal.returns-clause-others
returns-clause-others c wide words sums k d =
    let items : List ℕ = c.as_slice-number-items.result.now in
    let P : List ℕ → Type 0 = λ l. Contains l k in
    c.loop-number.invariant.others wide words sums k (subst P (sym (take_all c.loop-number.number-index items c.loop-number-test.false)) (subst P (sym c.as_slice-number-items.ensures) d))
