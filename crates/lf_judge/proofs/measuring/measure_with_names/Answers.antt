use Rattle.std.proofs.lemmas.Result.{err_from_is_err_and}
use Rattle.lf_judge.proofs.measuring.measure_with_names.Goals as goal

pub returns-in_err-universe-clause-refused : goal.returns-in_err-universe-clause-refused
returns-in_err-universe-clause-refused c = let p = err_from_is_err_and c.from_residual.result c.from_residual.ensures.1 in rw (p.1, p.2) (c.in_err-universe.ensures.refused c.args.labels)

pub returns-in_err-limit-clause-refused : goal.returns-in_err-limit-clause-refused
returns-in_err-limit-clause-refused c = let p = err_from_is_err_and c.from_residual-in_err-limit.result c.from_residual-in_err-limit.ensures.1 in rw (p.1, p.2) c.in_err-limit.ensures.refused
