use Rattle.std.proofs.Common.{◌∙◌, arith}
use Rattle.lf_lint.proofs.Gathered.{opened_most}
use Rattle.lf_lint.proofs.OneReport.{one_number, one_outcome}
use Rattle.lf_lint.proofs.Written.{wrote_truth}
use Rattle.lf_lint.proofs.linting.lint.Goals as goal

pub returns-in-Err-Memory-clause-one_report : goal.returns-in-Err-Memory-clause-one_report
returns-in-Err-Memory-clause-one_report g c = one_outcome _

pub returns-in-Err-clause-one_report : goal.returns-in-Err-clause-one_report
returns-in-Err-clause-one_report g c = one_outcome _

pub returns-in-Err-write_whole-clause-one_report : goal.returns-in-Err-write_whole-clause-one_report
returns-in-Err-write_whole-clause-one_report g c = one_outcome _

pub returns-clause-one_report : goal.returns-clause-one_report
returns-clause-one_report g c = one_outcome _

pub returns-in-Err-clause-opened_once : goal.returns-in-Err-clause-opened_once
returns-in-Err-clause-opened_once g c = λ options asks.
    let why = c.in-Err.ensures.why in
    let most = opened_most _ _ c.in-Ok.options _ _ why.0 c.in-Err.why why.2 in
    omega (arith, why.1, most, one_number _ c.in-Ok.options options c.in-Ok.ensures.asked asks)

pub returns-in-Err-write_whole-clause-opened_at_write : goal.returns-in-Err-write_whole-clause-opened_at_write
returns-in-Err-write_whole-clause-opened_at_write g c = λ options asks e. omega (arith, c.in-Ok-make.ensures.opened, one_number _ c.in-Ok.options options c.in-Ok.ensures.asked asks)

pub returns-in-Err-write_whole-clause-opened_once : goal.returns-in-Err-write_whole-clause-opened_once
returns-in-Err-write_whole-clause-opened_once g c = λ options asks. omega (arith, c.in-Ok-make.ensures.opened, one_number _ c.in-Ok.options options c.in-Ok.ensures.asked asks)

pub returns-clause-opened : goal.returns-clause-opened
returns-clause-opened g c = λ options asks e. omega (arith, c.in-Ok-make.ensures.opened, one_number _ c.in-Ok.options options c.in-Ok.ensures.asked asks)

pub returns-clause-opened_once : goal.returns-clause-opened_once
returns-clause-opened_once g c = λ options asks. omega (arith, c.in-Ok-make.ensures.opened, one_number _ c.in-Ok.options options c.in-Ok.ensures.asked asks)

pub returns-clause-headline : goal.returns-clause-headline
returns-clause-headline g c = λ e. wrote_truth _ _ _ _ c.in-Ok.options c.in-Ok-make.made _ c.in-Ok.ensures.asked c.in-Ok-make.ensures.made (c.as_bytes.ensures.value ∙ c.as_str.ensures) c.in-Ok-write_whole.ensures.whole
