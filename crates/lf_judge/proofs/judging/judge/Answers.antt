use Rattle.std.proofs.Common.{◌∙◌, Err, ap}
use Rattle.std.proofs.lemmas.Result.{err_from_is_err_and}
use Rattle.lf_judge.specs.Judged.{files_of}
use Rattle.lf_judge.proofs.Contents.{some_contents}
use Rattle.lf_judge.proofs.judging.judge.Goals as goal

pub returns-in_err-accepted-clause-refused : goal.returns-in_err-accepted-clause-refused
returns-in_err-accepted-clause-refused g c =
    let p = err_from_is_err_and c.from_residual.result c.from_residual.ensures.1 in
    let some = some_contents (files_of c.args.files.now) in
    rw (p.1, p.2) (some.0, some.1, tt)

pub returns-in_err-accepted-clause-allowed : goal.returns-in_err-accepted-clause-allowed
returns-in_err-accepted-clause-allowed g c = λ told.
    let p = err_from_is_err_and c.from_residual.result c.from_residual.ensures.1 in
    absurd (told (p.1 ∙ ap Err p.2))
