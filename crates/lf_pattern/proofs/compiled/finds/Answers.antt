use Rattle.std.proofs.Common.{◌∙◌, is_some, ap}
use Rattle.regex.specs.Patterns.{Re, find_str}
use Rattle.lf_pattern.proofs.compiled.finds.Goals as goal

pub returns-clause-found : goal.returns-clause-found
returns-clause-found c = λ p is. c.is_match.ensures.found ∙ is c.args.value.now (λ k. (c.type_inv.value k).fits)

pub returns-clause-same : goal.returns-clause-same
returns-clause-same c = λ p is value bytes. ap (λ (re : Re). is_some (find_str re value 0)) c.is_match.ensures.same ∙ is value bytes
