use Rattle.std.proofs.Common.{Option, inl, inr, sym, ◌∙◌, subst}
use Rattle.std.proofs.lemmas.List.{take_all}
use Rattle.lf_ast.specs.Labels.{Bytes}
use Rattle.lf_uniform.specs.views.Ways.{IsCyclicIn, IsCyclicName}
use Rattle.lf_uniform.proofs.Uncyclic.{in_more}
use Rattle.lf_uniform.proofs.reaching.has_cyclic.Goals as goal

pub loop-name-preserved : goal.loop-name-preserved
loop-name-preserved c = λ rules is found.
    let x : Option Bytes = c.name-item.result in
    elim (in_more c.args.selected.now c.loop-name.name-index x c.loop-name-test.true found.0 found.1) [
      | inl front ↦ c.loop-name.invariant rules is (found.0, front, found.2)
      | inr last ↦ c.is_cyclic.ensures.none c.if-is_cyclic.false rules is (subst (IsCyclicName rules) (sym (c.name-item.is ∙ last)) found.2)
    ]

pub returns-clause-none : goal.returns-clause-none
returns-clause-none c = λ _ rules is found.
    c.loop-name.invariant rules is (subst (IsCyclicIn rules) (sym (take_all c.loop-name.name-index c.args.selected.now c.loop-name-test.false)) found)
