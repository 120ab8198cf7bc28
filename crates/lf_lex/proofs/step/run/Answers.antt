use Rattle.std.proofs.Common.{◌∙◌, ap, arith}
use Rattle.lf_lex.specs.reading.Runs.{run_len}
use Rattle.lf_lex.proofs.Ascii.{run_start, run_some, run_end}
use Rattle.lf_lex.proofs.step.run.Goals as goal

pub part-requires-clause-start : goal.part-requires-clause-start
part-requires-clause-start c = run_start c.args.text.now c.args.at c.utf8.text c.requires.within c.requires.begins

pub part-requires-clause-end : goal.part-requires-clause-end
part-requires-clause-end c = run_end c.args.text.now c.args.at c.utf8.text c.requires.within c.requires.begins c.run_len-len.result (c.run_len-len.ensures.value ∙ ap run_len c.here-rest.ensures.value) (omega arith)

pub returns-then-is_number-clause-within : goal.returns-then-is_number-clause-within
returns-then-is_number-clause-within c =
    let e = c.run_len-len.ensures.value ∙ ap run_len c.here-rest.ensures.value in
    let some = run_some c.args.text.now c.args.at c.utf8.text c.requires.within c.requires.begins in
    (omega arith, omega arith)

pub part-requires-in-Some-true-clause-start : goal.part-requires-in-Some-true-clause-start
part-requires-in-Some-true-clause-start c = run_start c.args.text.now c.args.at c.utf8.text c.requires.within c.requires.begins

pub part-requires-in-Some-true-clause-end : goal.part-requires-in-Some-true-clause-end
part-requires-in-Some-true-clause-end c = run_end c.args.text.now c.args.at c.utf8.text c.requires.within c.requires.begins c.run_len-len.result (c.run_len-len.ensures.value ∙ ap run_len c.here-rest.ensures.value) (omega arith)

pub returns-in_ok-text-in-Some-true-clause-within : goal.returns-in_ok-text-in-Some-true-clause-within
returns-in_ok-text-in-Some-true-clause-within c =
    let e = c.run_len-len.ensures.value ∙ ap run_len c.here-rest.ensures.value in
    let some = run_some c.args.text.now c.args.at c.utf8.text c.requires.within c.requires.begins in
    (omega arith, omega arith)
