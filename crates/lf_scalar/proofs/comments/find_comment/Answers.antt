use Rattle.std.proofs.Common.{sym, ◌∙◌, arith}
use Rattle.lf_scalar.proofs.PlainText.{comment-text, comment-there, no-comment-text, no-comment}
use Rattle.lf_scalar.proofs.SmallBytes.{small-comment}
use Rattle.lf_scalar.proofs.comments.find_comment.Goals as goal

pub returns-then-begins_comment-clause-text : goal.returns-then-begins_comment-clause-text
returns-then-begins_comment-clause-text c = λ at. comment-text at c.args.line.now c.loop-i.i (omega arith) c.loop-i.invariant (sym c.begins_comment.ensures ∙ c.if-begins_comment.true)

pub returns-then-begins_comment-clause-comment : goal.returns-then-begins_comment-clause-comment
returns-then-begins_comment-clause-comment c = λ at. comment-there at c.args.line.now c.loop-i.i (omega arith) c.loop-i.invariant (sym c.begins_comment.ensures ∙ c.if-begins_comment.true)

pub returns-clause-text : goal.returns-clause-text
returns-clause-text c = λ at. no-comment-text at c.args.line.now (λ k h. c.loop-i.invariant k (omega arith))

pub returns-clause-comment : goal.returns-clause-comment
returns-clause-comment c = λ at. no-comment at c.args.line.now (λ k h. c.loop-i.invariant k (omega arith))

pub returns-then-begins_comment-clause-ascii : goal.returns-then-begins_comment-clause-ascii
returns-then-begins_comment-clause-ascii c = small-comment c.args.line.now c.loop-i.i (sym c.begins_comment.ensures ∙ c.if-begins_comment.true)
