use Rattle.std.proofs.Common.{ℕ, List, ◌++◌, get_or, refl, ap, ◌∙◌}
use Rattle.std.proofs.lemmas.List.Elements.{Contains-get_or}
use Rattle.lf_open.specs.declared.open_at.OpenAt.{OpenAt}
use Rattle.lf_open.specs.views.Known.{rules_of}
use Rattle.lf_open.proofs.Joined.{one_more}
use Rattle.lf_open.proofs.opens.push_others.Goals as goal

pub other_list-requires-clause-rule : goal.other_list-requires-clause-rule
other_list-requires-clause-rule c =
    let numbers : List ℕ = c.args.numbers.now in
    let k : ℕ = c.loop-number.number-index in
    c.requires.rules (get_or numbers k 0) (Contains-get_or numbers k 0 c.loop-number-test.true)

pub loop-number-preserved : goal.loop-number-preserved
loop-number-preserved c =
    let numbers : List ℕ = c.args.numbers.now in
    let k : ℕ = c.loop-number.number-index in
    let found : List OpenAt = c.loop-number.found in
    one_more (rules_of c.args.known.now) c.args.i k 0 (get_or numbers k 0) numbers c.args.found.now found c.in_ok-own.own c.extend_from_slice.new.self c.loop-number-test.true refl c.loop-number.invariant c.in_ok-own.ensures
    (c.in_ok-extend_from_slice.ensures.ok ∙ ap (λ (l : List OpenAt). found ++ l) c.as_slice.ensures)
