use Rattle.std.proofs.Common.{◌≡◌, ◌++◌, ℕ, List, ap, sym, ◌∙◌, subst, arith}
use Rattle.std.proofs.lemmas.List.{append-nil}
use Rattle.std.specs.Prelude.{OnOk}
use Rattle.lf_flow.proofs.ReadNumbers.{no_number, one_number}
use Rattle.lf_flow.proofs.reading.add_name.Goals as goal

pub returns-in_ok-number : goal.returns-in_ok-number
returns-in_ok-number c =
    let names = c.args.recorded.now in
    let old : List ℕ = c.args.numbers.now in
    let P : List ℕ → Type 0 = λ l. OnOk c.push.result (c.push.new.self ≡ old ++ l) in
    subst P (one_number names c.args.name.now c.in_ok-number.number (c.in_ok-number.ensures ∙ c.place-place.ensures.place) (omega (arith, c.place-place.ensures.place, c.len.ensures.count, c.if-place-len.true))) c.push.ensures.ok

pub returns-else-place-len : goal.returns-else-place-len
returns-else-place-len c =
    let names = c.args.recorded.now in
    let old : List ℕ = c.args.numbers.now in
    sym (append-nil old) ∙ ap (λ (l : List ℕ). old ++ l) (no_number names c.args.name.now (omega (arith, c.place-place.ensures.place, c.len.ensures.count, c.if-place-len.false)))
