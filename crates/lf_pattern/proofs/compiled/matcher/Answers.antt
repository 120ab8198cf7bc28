use Rattle.std.proofs.Common.{◌∙◌, is_some, ap}
use Rattle.regex.specs.Patterns.{Re, find_str}
use Rattle.lf_pattern.proofs.ReadLaws.{found_by}
use Rattle.lf_pattern.proofs.compiled.matcher.Goals as goal

pub returns : goal.returns
returns c = λ p source config read value bytes.
    ap (λ (re : Re). is_some (find_str re value 0)) c.in_ok-matcher.ensures.pattern ∙ found_by c.args.regex.now p value source config read bytes
