use Rattle.std.proofs.Common.{◌≡◌, List, reverse, All, IsPermutation, sym, subst}
use Rattle.std.proofs.lemmas.Result.{IfOk-weaker}
use Rattle.std.proofs.lemmas.List.Sorted.{All-permutation, IsPermutation-reverse, IsPermutation-sym}
use Rattle.lf_board.specs.declared.pieces.Piece.{Piece}
use Rattle.lf_board.specs.Pieces.{StandsAt}
use Rattle.lf_board.proofs.Sorted.{numbers-permutation}
use Rattle.lf_board.proofs.pieces.gather.Goals as goal

-- pieces taken out from the last one on are the same in another order
backwards : {T : Type 0} (pieces taken : List (Piece T)) → taken ≡ reverse pieces → IsPermutation pieces taken
backwards pieces taken is = subst (IsPermutation pieces) (sym is) (IsPermutation-reverse pieces)

pub in_order-requires : goal.in_order-requires
in_order-requires g c =
    let taken = c.in_ok-taken.taken.items in
    numbers-permutation c.args.pieces taken c.requires (backwards c.args.pieces taken c.in_ok-taken.ensures)

pub returns-clause-each : goal.returns-clause-each
returns-clause-each g c =
    let T = g.row.T.Denot in
    let taken = c.in_ok-taken.taken.items in
    let moved = IsPermutation-sym c.args.pieces taken (backwards c.args.pieces taken c.in_ok-taken.ensures) in
    IfOk-weaker c.in_order.result (λ (values : List T). All (StandsAt values) taken) (λ (values : List T). All (StandsAt values) c.args.pieces)
    (λ (values : List T) stand. All-permutation (StandsAt values) taken c.args.pieces moved stand)
    c.in_order.ensures.each
