use Rattle.std.proofs.Common.{◌≡◌, ◌+◌, take}
use Rattle.lf_ast.specs.Rules.{rule_trees}
use Rattle.lf_semantics.specs.Environments.{IsEnvironmentOf}
use Rattle.lf_rounds.specs.Facts.{task}
use Rattle.lf_rounds.specs.Sums.{sum_of_loads, sum_of_rows}
use Rattle.lf_rounds.specs.Tasks.{width}
use Rattle.lf_rounds.specs.views.Working.{HasRead, HasRoom, IsAsBefore, IsUsed, seen}
use Rattle.lf_rounds.proofs.round.Round.load_rows.Given as goal

abbrev pub invariant-loop-number : goal.invariant-loop-number
invariant-loop-number l = record {
  used : IsUsed l.self l.seat.table_id l.seat.me;
  same : IsAsBefore l.initial.seat.me.0 l.seat.me.0;
  env : IsEnvironmentOf l.self.universe (rule_trees l.self.rules) l.env;
  room : HasRoom (width (task l.self)) l.room;
  loads : sum_of_loads l.seat.me.0.loads ≡ sum_of_loads l.initial.seat.me.0.loads + l.sum;
  rows : l.sum ≡ sum_of_rows (width (task l.self)) (seen l.self l.seat.me) (take l.number-index l.numbers);
  read : HasRead (task l.self) (seen l.self l.seat.me) (take l.number-index l.numbers) l.env;
}
