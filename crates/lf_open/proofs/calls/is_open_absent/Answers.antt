use Rattle.std.proofs.Common.{◌≡◌, ◌↔◌, IsTrue, Some, sym, ◌∙◌, ap, subst}
use Rattle.lf_ast.specs.Tree.{Tree, Trees, tree}
use Rattle.lf_ast.specs.declared.functions.LabelEffect.TheVariants.{Absent}
use Rattle.lf_semantics.specs.Parts.{sought_in}
use Rattle.lf_witness.specs.Strict.{IsOpenAbsent}
use Rattle.lf_open.specs.Constructs.{effect_of}
use Rattle.lf_open.specs.Holding.{arguments_of}
use Rattle.lf_open.proofs.calls.is_open_absent.Goals as goal

pub returns-in-Some-Absent : goal.returns-in-Some-Absent
returns-in-Some-Absent c =
    let e : Tree = tree c.args.expr.now in
    let effect : effect_of e ≡ Some Absent = sym c.effect_of.ensures ∙ c.in-Some-Absent.is ∙ ap Some c.in-Some-Absent.field-0-is in
    let given = subst (λ (args : Trees). IsTrue c.is_open.result ↔ IsOpenAbsent (sought_in args)) c.arguments_of.ensures c.is_open.ensures in
    (λ h. (effect, given.0 h), λ h. given.1 h.1)
