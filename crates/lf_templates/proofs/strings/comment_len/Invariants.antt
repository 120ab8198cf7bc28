use Rattle.std.proofs.Common.{◌≡◌}
use Rattle.lf_templates.specs.reading.Templates.{comment_len}
use Rattle.lf_templates.proofs.Passing.{searched}
use Rattle.lf_templates.proofs.strings.comment_len.Given as goal

abbrev pub invariant-loop-i : goal.invariant-loop-i
invariant-loop-i l = searched l.rest l.i ≡ comment_len l.rest
