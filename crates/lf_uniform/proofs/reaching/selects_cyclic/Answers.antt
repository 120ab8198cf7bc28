use Rattle.std.proofs.Common.{◌<◌, ℕ, List, Some, get_or, length, inl, inr, sym, ◌∙◌, ap, subst, arith}
use Rattle.std.specs.Prelude.{slice_get}
use Rattle.std.specs.List.{Contains}
use Rattle.std.proofs.lemmas.List.{take_all}
use Rattle.std.proofs.lemmas.List.Elements.{Contains-get_or}
use Rattle.lf_deps.proofs.LookedUp.{selected_count, selected_is}
use Rattle.lf_uniform.specs.views.Ways.{IsCyclicIn, IsUncyclic}
use Rattle.lf_laws.proofs.Slices.{some_at}
use Rattle.lf_uniform.proofs.Uncyclic.{in_more, selects_some}
use Rattle.lf_uniform.proofs.reaching.selects_cyclic.Goals as goal

pub selected_by-requires : goal.selected_by-requires
selected_by-requires c =
    let numbers : List ℕ = c.args.numbers.now in
    c.requires.numbers (get_or numbers c.loop-number.number-index 0) (Contains-get_or numbers c.loop-number.number-index 0 c.loop-number-test.true)

pub returns-then-has_cyclic-clause-cyclic : goal.returns-then-has_cyclic-clause-cyclic
returns-then-has_cyclic-clause-cyclic c = λ _ rules is.
    let numbers : List ℕ = c.args.numbers.now in
    let k : ℕ = get_or numbers c.loop-number.number-index 0 in
    let there : Contains numbers k = Contains-get_or numbers c.loop-number.number-index 0 c.loop-number-test.true in
    let small : k < length rules = let w = c.requires.numbers k there in let n = selected_count rules c.args.sources.now is in omega (arith, w, n) in
    let r = some_at rules k small in
    let said = c.selected_by.ensures ∙ selected_is rules c.args.sources.now is k r.0 r.1 in
    selects_some rules numbers k r.0 there r.1 (subst (IsCyclicIn rules) said (c.has_cyclic.ensures.cyclic c.if-has_cyclic.true rules is))

pub loop-number-preserved : goal.loop-number-preserved
loop-number-preserved c = λ rules is k there r at name says circle.
    let numbers : List ℕ = c.args.numbers.now in
    let n : ℕ = get_or numbers c.loop-number.number-index 0 in
    elim (in_more numbers c.loop-number.number-index 0 c.loop-number-test.true k there) [
      | inl front ↦ c.loop-number.invariant rules is k front r at name says circle
      | inr last ↦
          let said = c.selected_by.ensures ∙ selected_is rules c.args.sources.now is n r (ap (slice_get rules) last ∙ at) in
          c.has_cyclic.ensures.none c.if-has_cyclic.false rules is (subst (IsCyclicIn rules) (sym said) (Some name, says, circle))
    ]

pub returns-clause-none : goal.returns-clause-none
returns-clause-none c = λ _ rules is.
    subst (IsUncyclic rules) (take_all c.loop-number.number-index c.args.numbers.now c.loop-number-test.false) (c.loop-number.invariant rules is)
