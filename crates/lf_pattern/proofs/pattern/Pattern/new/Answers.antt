use Rattle.std.proofs.Common.{rules, ◌≡◌, IfErr, false}
use Rattle.lf_pattern.specs.Matching.{is_read}
use Rattle.lf_pattern.specs.declared.error.PatternError.TheVariants.{BadPattern}
use Rattle.lf_pattern.proofs.GroupLaws.{unread_of}
use Rattle.lf_pattern.proofs.pattern.Pattern.new.Goals as goal

pub returns-in_err-regex-clause-bad : goal.returns-in_err-regex-clause-bad
returns-in_err-regex-clause-bad c =
    let unread : IfErr c.from_residual-in_err-regex.result (λ e. e ≡ BadPattern → is_read c.args.text.now ≡ false) = search rules in
    unread_of c.from_residual-in_err-regex.result BadPattern c.args.text.now unread
