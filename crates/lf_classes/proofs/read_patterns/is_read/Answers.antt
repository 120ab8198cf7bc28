use Rattle.std.proofs.Common.{sym}
use Rattle.lf_pattern.proofs.GroupLaws.{read_is}
use Rattle.lf_semantics.proofs.PatternFaults.{unread_is}
use Rattle.lf_classes.proofs.read_patterns.is_read.Goals.{in-Ok, in-Err-BadPattern, in-Err-Memory}
use Rattle.lf_classes.proofs.read_patterns.is_read.Goals as goal

pub returns : goal.returns
returns c = elim c.match-new.branch [
  | in-Ok w ↦ rw w.result-is (sym ((read_is c.args.pattern.now).1 w.in-Ok.ensures.read))
  | in-Err-BadPattern w ↦ rw w.result-is (sym ((unread_is c.args.pattern.now).1 (w.in-Err-BadPattern.ensures.bad w.in-Err-BadPattern.field-0-is)))
  | in-Err-Memory w ↦ rw w.result-is tt
]
