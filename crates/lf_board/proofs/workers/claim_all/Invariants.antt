use Rattle.std.proofs.Common.{◌≡◌, ◌-◌, length}
use Rattle.lf_board.specs.Pieces.{numbers_of}
use Rattle.lf_board.specs.views.Workers.{IsWorkOf}
use Rattle.lf_board.proofs.workers.claim_all.Given as goal

abbrev pub invariant-loop-number : goal.invariant-loop-number
invariant-loop-number g l = record {
  seat : l.seat ≡ record l.initial.seat { claims = numbers_of l.pieces.items };
  values : IsWorkOf g.F.Fn l.work l.pieces.items;
}

abbrev pub decreases-loop-number : goal.decreases-loop-number
decreases-loop-number g l = l.board.pieces - length l.seat.claims
