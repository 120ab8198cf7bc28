use Rattle.std.proofs.Common.{ℕ, List, [], get_or, refl, subst}
use Rattle.std.proofs.lemmas.List.{take_all}
use Rattle.lf_graph.specs.views.Listing.{Adds}
use Rattle.lf_graph.proofs.Inserting.{adds_next}
use Rattle.lf_deps.proofs.numbers.set_of.Goals as goal

pub loop-number-preserved : goal.loop-number-preserved
loop-number-preserved c =
    let numbers : List ℕ = c.args.numbers.now in
    let i : ℕ = c.loop-number.number-index in
    adds_next numbers i (get_or numbers i 0) [] c.loop-number.set.keys c.add_number.new.found.keys c.loop-number-test.true refl c.loop-number.invariant c.in_ok-add_number.ensures.ok

pub returns : goal.returns
returns c =
    let A : List ℕ → Type 0 = λ l. Adds l [] c.loop-number.set.keys in
    subst A (take_all c.loop-number.number-index c.args.numbers.now c.loop-number-test.false) c.loop-number.invariant
