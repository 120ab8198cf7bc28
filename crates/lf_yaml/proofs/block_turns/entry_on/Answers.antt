use Rattle.std.proofs.Common.{sym}
use Rattle.lf_yaml.proofs.HeadCode.{head-behind}
use Rattle.lf_yaml.proofs.block_turns.entry_on.Goals as goal

pub returns-in-Some-clause-entry : goal.returns-in-Some-clause-entry
returns-in-Some-clause-entry c = λ bytes h start. record {
  row = h;
  entry = sym c.in-Some.ensures.head;
  key = c.in-Some.ensures.key;
  behind = head-behind c.args.row c.in-Some.head c.args.row.full (sym c.in-Some.ensures.head);
  start = start;
}
