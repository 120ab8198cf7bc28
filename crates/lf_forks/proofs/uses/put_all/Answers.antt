use Rattle.std.proofs.Common.{true, ℕ, List, Option, subst}
use Rattle.lf_ast.specs.Labels.{Bytes}
use Rattle.lf_deps.specs.views.Links.{source_of}
use Rattle.lf_forks.specs.views.Uses.{Puts}
use Rattle.lf_forks.proofs.Puts.{puts_more}
use Rattle.lf_forks.proofs.uses.put_all.Goals as goal

pub loop-selector-preserved : goal.loop-selector-preserved
loop-selector-preserved c =
    let names : List Bytes = c.args.names.now in
    let i : ℕ = c.loop-selector.selector-index in
    let P : Option Bytes → Type 0 = λ o. Puts true (source_of names o) c.args.place c.loop-selector.uses c.put.new.uses in
    puts_more (source_of names) c.args.selected.now i c.selector-item.result c.args.place c.args.uses.now c.loop-selector.uses c.put.new.uses c.loop-selector-test.true c.loop-selector.invariant
    (subst P c.selector-item.is c.in_ok-put.ensures)
