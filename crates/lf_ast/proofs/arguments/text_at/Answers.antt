use Rattle.std.proofs.Common.{arith, sym, ◌∙◌}
use Rattle.std.proofs.lemmas.Grind.{common_steps}
use Rattle.lf_ast.proofs.TreeOf.{text_there, text_missing}
use Rattle.lf_ast.proofs.arguments.text_at.Goals as goal

pub returns-in-Some : goal.returns-in-Some
returns-in-Some c = c.text_of.ensures ∙ sym (text_there c.args.args.now c.args.place c.in-Some.expr.now (grind (arith, common_steps, c.in-Some.ensures.lookup)) (grind (arith, common_steps, c.in-Some.ensures.lookup)))

pub returns-in-None : goal.returns-in-None
returns-in-None c = sym (text_missing c.args.args.now c.args.place (grind (arith, common_steps, c.in-None.ensures.lookup)))
