use Rattle.std.proofs.Common.{◌≡◌, ℕ, List, All, Result, Ok, Err, IfOk, length, map, subst, ap}
use Rattle.std.specs.List.{range_with_len}
use Rattle.std.proofs.lemmas.Result.{IfOk-weaker}
use Rattle.lf_board.specs.Numbers.{AreNumbersBelow}
use Rattle.lf_board.specs.Seats.{SeatFacts}
use Rattle.lf_board.specs.Pieces.{numbers_of, StandsAt, IsMapOf}
use Rattle.lf_board.specs.views.Workers.{IsWorkOf}
use Rattle.lf_board.proofs.Maps.{maps, plain_map}
use Rattle.lf_board.proofs.workers.map_pieces.Goals as goal

both_at_ok : {X E : Type 0} (r : Result X E) (P Q S : X → Type 0) → ((x : X) → P x → Q x → S x) → IfOk r P → IfOk r Q → IfOk r S
both_at_ok (Ok x) P Q S step p q = step x p q
both_at_ok (Err e) P Q S step p q = tt

pub returns-clause-each : goal.returns-clause-each
returns-clause-each g c =
    let ps = c.in_ok-done.done.pieces.items in
    let is = c.in_ok-done.ensures.0 in
    let all = c.close.ensures (ap (λ (s : SeatFacts). s.is_open) is) in
    let each : AreNumbersBelow c.args.pieces (numbers_of ps) = subst (λ (z : ℕ × List ℕ). AreNumbersBelow z.0 z.1) (λ i. (c.in_ok-board.ensures.board.0 i, ap (λ (s : SeatFacts). s.claims) is i)) all in
    let worked : IsWorkOf g.F.Fn c.args.work.now ps = λ k d h. c.in_ok-done.ensures.1 k d h in
    both_at_ok c.in_order.result (λ v. length v ≡ length ps) (λ v. All (StandsAt v) ps) (λ v. IsMapOf g.F.Fn c.args.work.now c.args.pieces v)
    (λ v len stands. maps g.F.Fn c.args.work.now c.args.pieces ps v each worked len stands)
    c.in_order.ensures.len c.in_order.ensures.each

pub returns-clause-plain : goal.returns-clause-plain
returns-clause-plain g c f gives =
    IfOk-weaker c.in_order.result (λ v. IsMapOf g.F.Fn c.args.work.now c.args.pieces v) (λ v. v ≡ map f (range_with_len 0 c.args.pieces))
    (λ v is. plain_map g.F.Fn c.args.work.now c.args.pieces v is f (λ i y h gave. gives i y h gave))
    (returns-clause-each g c)
