use Rattle.std.proofs.Common.{arith}
use Rattle.lf_scalar.proofs.QuotedText.{first-text}
use Rattle.lf_scalar.proofs.quoted_scalar.first_line.Goals as goal

pub returns-clause-value : goal.returns-clause-value
returns-clause-value c = λ at. first-text at c.line_end.result.text c.line_end.result.feed c.args.rest.now c.before-2.result.now (omega (arith, c.line_end.ensures.within.0, c.line_end.ensures.within.1)) c.before-2.ensures (c.line_end.ensures.first at)
