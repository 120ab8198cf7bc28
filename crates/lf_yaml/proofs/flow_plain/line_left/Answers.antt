use Rattle.std.proofs.Common.{◌∙◌, ◌+◌, eq-eqb}
use Rattle.std.proofs.lemmas.Bool.{ne_eqb}
use Rattle.lf_yaml.proofs.PlainLines.{nothing-left, something-left}
use Rattle.lf_yaml.proofs.flow_plain.line_left.Goals as goal

pub returns-then-blanks-left-clause-left : goal.returns-then-blanks-left-clause-left
returns-then-blanks-left-clause-left c = λ b.
    let n = c.args.at + c.blanks-skipped.result + c.flow_text_len-len.result in
    nothing-left c.args.at c.blanks-skipped.result c.flow_text_len-len.result b c.args.line.now c.past-text.result.now (c.blanks-skipped.ensures.after c.args.at) c.past-text.ensures c.flow_text_len-len.ensures.within
    (c.flow_text_len-len.ensures.text (c.args.at + c.blanks-skipped.result)) c.past-left.result.now c.past-left.ensures (c.blanks.ensures.blank n ∙ eq-eqb _ _ c.if-blanks-left.true)

pub returns-else-blanks-left-clause-left : goal.returns-else-blanks-left-clause-left
returns-else-blanks-left-clause-left c = λ b.
    let n = c.args.at + c.blanks-skipped.result + c.flow_text_len-len.result in
    something-left c.args.at c.blanks-skipped.result c.flow_text_len-len.result b c.args.line.now c.past-text.result.now (c.blanks-skipped.ensures.after c.args.at) c.past-text.ensures c.flow_text_len-len.ensures.within
    (c.flow_text_len-len.ensures.text (c.args.at + c.blanks-skipped.result)) c.past-left.result.now c.past-left.ensures (c.blanks.ensures.blank n ∙ ne_eqb _ _ c.if-blanks-left.false)
