use Rattle.std.proofs.Common.{◌≡◌, Option, IfOk, arith, sym, ap, subst}
use Rattle.std.specs.Option.{option_and_then}
use Rattle.std.proofs.lemmas.Grind.{common_steps}
use Rattle.lf_ast.specs.Tree.{Tree}
use Rattle.lf_semantics.specs.PatternBreaches.{placed_string}
use Rattle.lf_classes.specs.reading.Checking.{string_fault}
use Rattle.lf_classes.proofs.Arguments.{argument_missing, argument_there}
use Rattle.lf_classes.proofs.patterns.fifth_fault.Goals as goal

pub returns-in-Some : goal.returns-in-Some
returns-in-Some c =
    let there = argument_there c.args.args.now 4 c.in-Some.pattern.now (grind (arith, common_steps, c.in-Some.ensures.lookup)) (grind (arith, common_steps, c.in-Some.ensures.lookup)) in
    let P : Option Tree → Type 0 = λ o. IfOk c.string_fault.result (λ found. found ≡ string_fault (option_and_then placed_string o)) in
    subst P (sym there) c.string_fault.ensures

pub returns-in-None : goal.returns-in-None
returns-in-None c = sym (ap (λ (o : Option Tree). string_fault (option_and_then placed_string o)) (argument_missing c.args.args.now 4 (grind (arith, common_steps, c.in-None.ensures.lookup))))
