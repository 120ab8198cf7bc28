use Rattle.std.proofs.Common.{length, sym}
use Rattle.lf_lex.proofs.Units.{not-empty, is-empty}
use Rattle.lf_lex.proofs.WholeDurations.{whole_none, whole_some, whole_other}
use Rattle.lf_lex.proofs.duration.is_duration.Goals as goal

pub returns-then-is_empty : goal.returns-then-is_empty
returns-then-is_empty c = whole_none c.args.text.now (is-empty (length c.args.text.now) c.is_empty.result c.is_empty.ensures c.if-is_empty.true)

pub returns-in-Some : goal.returns-in-Some
returns-in-Some c = whole_some c.args.text.now c.in-Some.ordered (not-empty (length c.args.text.now) c.is_empty.result c.is_empty.ensures c.if-is_empty.false) (sym c.in-Some.ensures)

pub returns-in-None : goal.returns-in-None
returns-in-None c = whole_other c.args.text.now (sym c.in-None.ensures)
