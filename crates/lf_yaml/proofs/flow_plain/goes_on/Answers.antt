use Rattle.std.proofs.Common.{[], ◌∙◌, ap, sym}
use Rattle.lf_yaml.specs.Flow.{goes_on}
use Rattle.lf_yaml.proofs.flow_plain.goes_on.Goals as goal

pub returns-in-Some : goal.returns-in-Some
returns-in-Some c = λ feed. c.row_goes_on.ensures [] ∙ sym (ap goes_on (c.in-Some.ensures.row feed))

pub returns-in-None : goal.returns-in-None
returns-in-None c = λ feed. sym (ap goes_on (c.in-None.ensures.row feed))
