use Rattle.lf_ast.specs.Rules.{rule_trees}
use Rattle.lf_semantics.specs.Environments.{IsEnvironmentOf}
use Rattle.lf_rounds.specs.Facts.{task}
use Rattle.lf_rounds.specs.Tasks.{width}
use Rattle.lf_rounds.specs.views.Noting.{AreNoted}
use Rattle.lf_rounds.specs.views.Working.{HasRoom, IsNext, IsUsed, left_of}
use Rattle.lf_rounds.proofs.round.Round.work_on_from.Given as goal

abbrev pub invariant-loop-next : goal.invariant-loop-next
invariant-loop-next g l = record {
  used : IsUsed l.self l.seat.table_id l.seat.me;
  env : IsEnvironmentOf l.self.universe (rule_trees l.self.rules) l.env;
  room : HasRoom (width (task l.self)) l.room;
  noted : AreNoted l.seat.me.0.done l.notes.items;
  next : IsNext l.self.board.pieces l.initial.seat.me.0 l.next l.seat.me.0;
}

abbrev pub decreases-loop-next : goal.decreases-loop-next
decreases-loop-next g l = left_of l.self.board.pieces l.next l.seat.me.0
