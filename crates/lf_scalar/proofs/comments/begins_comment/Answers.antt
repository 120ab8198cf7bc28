use Rattle.std.proofs.Common.{sym, ◌∙◌}
use Rattle.lf_scalar.proofs.PlainText.{comment-blank, comment-other}
use Rattle.lf_scalar.proofs.comments.begins_comment.Goals as goal

pub returns-then-is_blank_byte : goal.returns-then-is_blank_byte
returns-then-is_blank_byte c = c.is_hash.ensures ∙ comment-blank c.args.line.now c.args.i c.requires (sym c.is_blank_byte.ensures ∙ c.if-is_blank_byte.true)

pub returns-else-is_blank_byte : goal.returns-else-is_blank_byte
returns-else-is_blank_byte c = c.if-is_blank_byte.false ∙ comment-other c.args.line.now c.args.i c.requires (sym c.is_blank_byte.ensures ∙ c.if-is_blank_byte.false)
