use Rattle.std.proofs.Common.{◌≡◌, ap, arith}
use Rattle.std.proofs.lemmas.Result.{IfOk-weaker}
use Rattle.lf_accept.specs.Allowance.{most}
use Rattle.lf_accept.specs.declared.allowance.PatternAllowance.{PatternAllowance}
use Rattle.lf_accept.proofs.Takings.{told_taken}
use Rattle.lf_accept.proofs.accepting.accept_counted.Goals as goal

pub returns-clause-taken : goal.returns-clause-taken
returns-clause-taken c =
    let start : c.of_file-allowance.result.left ≡ most = ap (λ (a : PatternAllowance). a.left) c.of_file-allowance.ensures in
    told_taken c.args.bytes.now c.of_file-allowance.result.left c.read-answer.new.allowance.left c.taken-taken.result (omega (arith, start, c.taken-taken.ensures)) c.read-answer.result c.read-answer.ensures.taken

pub returns-clause-counted : goal.returns-clause-counted
returns-clause-counted c =
    let start : c.of_file-allowance.result.left ≡ most = ap (λ (a : PatternAllowance). a.left) c.of_file-allowance.ensures in
    IfOk-weaker c.read-answer.result _ _ (λ rules e. omega (arith, e, start, c.taken-taken.ensures)) c.read-answer.ensures.counted
