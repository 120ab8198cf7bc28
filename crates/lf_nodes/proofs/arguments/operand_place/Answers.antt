use Rattle.std.proofs.Common.{sym, ◌∙◌, arith}
use Rattle.std.proofs.lemmas.List.Sums.{position_or_len_is}
use Rattle.lf_ast.specs.declared.expr.ExprType.TheVariants.{Str}
use Rattle.lf_semantics.specs.Parts.{takes_samples}
use Rattle.lf_nodes.proofs.arguments.operand_place.Goals as goal

pub returns-then-takes_samples : goal.returns-then-takes_samples
returns-then-takes_samples c =
    sym (position_or_len_is takes_samples c.args.takes.now c.loop-place.place Str (omega arith) (λ k b. c.loop-place.invariant k Str b) (λ b. sym c.takes_samples.ensures ∙ c.if-takes_samples.true))

pub returns : goal.returns
returns c =
    sym (position_or_len_is takes_samples c.args.takes.now _ Str (omega arith) (λ k b. c.loop-place.invariant k Str (omega arith)) (λ b. absurd (omega arith)))
