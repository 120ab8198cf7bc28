use Rattle.std.proofs.Common.{◌∙◌, append_assoc}
use Rattle.lf_report.proofs.line_index.place_at.Goals as goal

pub returns : goal.returns
returns c = c.from_string.ensures ∙ c.in_ok-place.ensures.ok ∙ simp append_assoc
