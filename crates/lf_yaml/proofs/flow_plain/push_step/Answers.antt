use Rattle.std.proofs.Common.{[], ◌∙◌, sym, subst}
use Rattle.std.proofs.lemmas.List.{append-nil}
use Rattle.lf_scalar.specs.reading.Quoted.{line_at}
use Rattle.lf_yaml.specs.reading.FlowLines.{IsLeft}
use Rattle.lf_yaml.proofs.PlainLines.{blank-step, ends-step, last-step, more-step, wrong-step}
use Rattle.lf_yaml.proofs.flow_plain.push_step.Goals as goal

pub returns-then-is_spaces-clause-steps : goal.returns-then-is_spaces-clause-steps
returns-then-is_spaces-clause-steps c =
    ([], sym (append-nil c.args.builder.now), blank-step c.args.folded.at c.args.folded.blank (line_at c.args.at c.args.line.now c.args.feed) (sym (c.is_spaces.ensures c.args.at c.args.feed) ∙ c.if-is_spaces.true))

pub returns-then-not-goes_on-clause-steps : goal.returns-then-not-goes_on-clause-steps
returns-then-not-goes_on-clause-steps c = (
  [],
  sym (append-nil c.args.builder.now),
  ends-step c.args.folded.at c.args.folded.blank (line_at c.args.at c.args.line.now c.args.feed) (sym (c.is_spaces.ensures c.args.at c.args.feed) ∙ c.if-is_spaces.false) (sym (c.goes_on.ensures c.args.feed) ∙ c.if-not-goes_on.true),
)

pub returns-in-Ok-Some-clause-steps : goal.returns-in-Ok-Some-clause-steps
returns-in-Ok-Some-clause-steps c =
    let t = c.in-Ok-Some.ensures.text c.args.feed in (
      t.0,
      t.2,
      last-step c.args.folded.at c.args.folded.blank (line_at c.args.at c.args.line.now c.args.feed) t.0 c.in-Ok-Some.after (sym (c.is_spaces.ensures c.args.at c.args.feed) ∙ c.if-is_spaces.false) (sym (c.goes_on.ensures c.args.feed) ∙ c.if-not-goes_on.false)
          (subst (IsLeft (line_at c.args.at c.args.line.now c.args.feed)) c.in-Ok-Some.field-0-is (c.in-Ok-Some.ensures.left c.args.feed)) t.1,
    )

pub returns-in-Ok-None-clause-steps : goal.returns-in-Ok-None-clause-steps
returns-in-Ok-None-clause-steps c =
    let t = c.in-Ok-None.ensures.text c.args.feed in (
      t.0,
      t.2,
      more-step c.args.folded.at c.args.folded.blank (line_at c.args.at c.args.line.now c.args.feed) t.0 (sym (c.is_spaces.ensures c.args.at c.args.feed) ∙ c.if-is_spaces.false) (sym (c.goes_on.ensures c.args.feed) ∙ c.if-not-goes_on.false)
          (subst (IsLeft (line_at c.args.at c.args.line.now c.args.feed)) c.in-Ok-None.field-0-is (c.in-Ok-None.ensures.left c.args.feed)) t.1,
    )

pub returns-in-Err-clause-steps : goal.returns-in-Err-clause-steps
returns-in-Err-clause-steps c =
    wrong-step c.args.folded.at c.args.folded.blank (line_at c.args.at c.args.line.now c.args.feed) c.in-Err.refusal (sym (c.is_spaces.ensures c.args.at c.args.feed) ∙ c.if-is_spaces.false) (sym (c.goes_on.ensures c.args.feed) ∙ c.if-not-goes_on.false)
    (c.in-Err.ensures.text c.args.feed)
