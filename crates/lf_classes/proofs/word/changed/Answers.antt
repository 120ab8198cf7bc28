use Rattle.std.proofs.Common.{sym, ap, ◌∙◌}
use Rattle.lf_classes.specs.views.Bits.{bit, changed}
use Rattle.lf_classes.proofs.WordBits.{bit-and, bit-or}
use Rattle.lf_classes.proofs.word.changed.Goals as goal

pub returns-in-Meet : goal.returns-in-Meet
returns-in-Meet c = λ i. bit-and c.args.word c.args.other i ∙ sym (ap (λ change. changed change (bit c.args.word i) (bit c.args.other i)) c.in-Meet.is)

pub returns-in-Join : goal.returns-in-Join
returns-in-Join c = λ i. bit-or c.args.word c.args.other i ∙ sym (ap (λ change. changed change (bit c.args.word i) (bit c.args.other i)) c.in-Join.is)
