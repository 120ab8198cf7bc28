use Rattle.lf_rounds.specs.views.Working.{IsRaising, IsUsed}
use Rattle.lf_rounds.proofs.round.Round.raise_row.Given as goal

abbrev pub invariant-loop-k : goal.invariant-loop-k
invariant-loop-k l = record {
  used : IsUsed l.self l.seat.table_id l.seat.me;
  raising : IsRaising l.initial.seat.me.0 l.k l.seat.me.0;
}
