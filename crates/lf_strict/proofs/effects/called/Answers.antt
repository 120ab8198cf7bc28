use Rattle.std.proofs.Common.{Option, subst, sym}
use Rattle.std.specs.Prelude.{IfOk}
use Rattle.std.specs.Option.{option_map}
use Rattle.lf_ast.specs.Functions.{signature_of}
use Rattle.lf_ast.specs.Tree.{trees}
use Rattle.lf_ast.specs.declared.functions.Function.{Function}
use Rattle.lf_witness.specs.Strict.{StrictCall, StrictlyEvaluates}
use Rattle.lf_witness.specs.StrictRuns.{InOrder}
use Rattle.lf_strict.proofs.effects.called.Goals as goal

pub returns-in-Some : goal.returns-in-Some
returns-in-Some c = λ W e given.
    let P : Option Function → Type 0 = λ function. IfOk c.effect.result (InOrder (StrictCall (option_map signature_of function) c.args.grouping.now (trees c.args.args.now) (λ place. StrictlyEvaluates W e))) in
    subst P (sym c.in-Some.is) (c.effect.ensures W e given)
