use Rattle.std.proofs.Common.{◌∙◌, ◌+◌, sym, ap, subst, List, ℕ}
use Rattle.lf_base.specs.declared.refusal.Refusal.{Refusal}
use Rattle.lf_scalar.specs.Cells.{cells, Fails}
use Rattle.lf_scalar.specs.reading.Quoted.{line_at}
use Rattle.lf_yaml.specs.reading.Trees.{plain_line}
use Rattle.lf_yaml.proofs.PlainLines.{line-refused, line-read}
use Rattle.lf_scalar.proofs.PlainCode.{yes}
use Rattle.lf_yaml.proofs.flow_plain.push_line.Goals as goal

pub returns-in-Some-clause-text : goal.returns-in-Some-clause-text
returns-in-Some-clause-text c = λ b.
    subst (λ (r : Refusal). Fails r (plain_line (line_at c.args.at c.args.line.now b))) (sym c.byte_fault.ensures)
    (line-refused c.args.at c.blanks-skipped.result c.flow_text_len-len.result b c.args.line.now c.past-text.result.now (c.blanks-skipped.ensures.after c.args.at) c.past-text.ensures c.flow_text_len-len.ensures.within
    (c.flow_text_len-len.ensures.text (c.args.at + c.blanks-skipped.result)) _ (c.in-Some.ensures.value (c.args.at + c.blanks-skipped.result)))

pub returns-in-Ok-clause-text : goal.returns-in-Ok-clause-text
returns-in-Ok-clause-text c = λ b. (
  _,
  line-read c.args.at c.blanks-skipped.result c.flow_text_len-len.result b c.args.line.now c.past-text.result.now (c.blanks-skipped.ensures.after c.args.at) c.past-text.ensures c.flow_text_len-len.ensures.within
      (c.flow_text_len-len.ensures.text (c.args.at + c.blanks-skipped.result)) (c.in-None.ensures.value (c.args.at + c.blanks-skipped.result)) ∙ ap (λ (xs : List ℕ). yes (cells (c.args.at + c.blanks-skipped.result) xs)) (sym c.before-in-None.ensures),
  c.in-Ok.ensures.ok,
)
