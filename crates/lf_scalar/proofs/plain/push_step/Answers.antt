use Rattle.std.proofs.Common.{[], ◌∙◌, sym}
use Rattle.std.proofs.lemmas.List.{append-nil}
use Rattle.lf_scalar.specs.reading.Quoted.{line_at}
use Rattle.lf_scalar.proofs.PlainCode.{blank-step, last-step, more-step, wrong-step, tab-step, ends-step}
use Rattle.lf_scalar.proofs.plain.push_step.Goals as goal

pub returns-in-Blank-clause-steps : goal.returns-in-Blank-clause-steps
returns-in-Blank-clause-steps c =
    ([], sym (append-nil c.args.builder.now), blank-step c.args.above c.args.folded.at c.args.folded.blank c.args.folded.tab (line_at c.args.at c.args.line.now c.args.feed) c.tab_with-tab.result (c.tab_with-tab.ensures.value c.args.feed) (c.in-Blank.ensures c.args.at c.args.feed))

pub returns-in-Ok-true-clause-steps : goal.returns-in-Ok-true-clause-steps
returns-in-Ok-true-clause-steps c =
    let t = c.in-Ok-true.ensures.text c.args.feed in
    let o = c.in-Continues.ensures c.args.at c.args.feed in
    (t.0, t.2, last-step c.args.above c.args.folded.at c.args.folded.blank c.args.folded.tab (line_at c.args.at c.args.line.now c.args.feed) t.0 o.1 (sym (c.tab_with-tab.ensures.value c.args.feed) ∙ c.in-None.is) (c.in-Ok-true.ensures.comment c.args.feed ∙ c.in-Ok-true.field-0-test) t.1)

pub returns-in-Ok-false-clause-steps : goal.returns-in-Ok-false-clause-steps
returns-in-Ok-false-clause-steps c =
    let t = c.in-Ok-false.ensures.text c.args.feed in
    let o = c.in-Continues.ensures c.args.at c.args.feed in
    (t.0, t.2, more-step c.args.above c.args.folded.at c.args.folded.blank c.args.folded.tab (line_at c.args.at c.args.line.now c.args.feed) t.0 o.1 (sym (c.tab_with-tab.ensures.value c.args.feed) ∙ c.in-None.is) (c.in-Ok-false.ensures.comment c.args.feed ∙ c.in-Ok-false.field-0-test) t.1)

pub returns-in-Err-clause-steps : goal.returns-in-Err-clause-steps
returns-in-Err-clause-steps c =
    let o = c.in-Continues.ensures c.args.at c.args.feed in
    wrong-step c.args.above c.args.folded.at c.args.folded.blank c.args.folded.tab (line_at c.args.at c.args.line.now c.args.feed) c.in-Err.refusal o.1 (sym (c.tab_with-tab.ensures.value c.args.feed) ∙ c.in-None.is) (c.in-Err.ensures.text c.args.feed)

pub returns-in-Some-clause-steps : goal.returns-in-Some-clause-steps
returns-in-Some-clause-steps c =
    let o = c.in-Continues.ensures c.args.at c.args.feed in
    tab-step c.args.above c.args.folded.at c.args.folded.blank c.args.folded.tab (line_at c.args.at c.args.line.now c.args.feed) c.in-Some.start o.1 (sym (c.tab_with-tab.ensures.value c.args.feed) ∙ c.in-Some.is)

pub returns-in-Ends-clause-steps : goal.returns-in-Ends-clause-steps
returns-in-Ends-clause-steps c =
    let o = c.in-Ends.ensures c.args.at c.args.feed in
    ([], sym (append-nil c.args.builder.now), ends-step c.args.above c.args.folded.at c.args.folded.blank c.args.folded.tab (line_at c.args.at c.args.line.now c.args.feed) o.0 o.1)

pub returns-in-Blank-clause-tab : goal.returns-in-Blank-clause-tab
returns-in-Blank-clause-tab c = c.tab_with-tab.ensures.room
