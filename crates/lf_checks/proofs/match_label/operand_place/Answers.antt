use Rattle.std.proofs.Common.{◌∙◌, ap}
use Rattle.std.specs.List.{position_or_len}
use Rattle.lf_ast.specs.Functions.{Signature}
use Rattle.lf_semantics.specs.Parts.{takes_samples}
use Rattle.lf_checks.proofs.match_label.operand_place.Goals as goal

pub returns : goal.returns
returns c = c.operand_place.ensures ∙ ap (λ (s : Signature). position_or_len takes_samples s.takes) c.of_aggregation.ensures
