use Rattle.std.proofs.Common.{arith, ap, length, ◌+◌, drop, ◌∙◌}
use Rattle.std.proofs.lemmas.List.{length-drop}
use Rattle.lf_scalar.proofs.Reaching.{front, none-front, one-more, all-of, nothing-left, none-given}
use Rattle.lf_scalar.proofs.quoted.push_pieces.Goals as goal

pub loop-stop-preserved : goal.loop-stop-preserved
loop-stop-preserved c =
    let r = c.loop-stop.invariant in
    let f = front c.args.kind (c.args.at + c.loop-stop.stop) (drop c.loop-stop.stop c.args.line.now) c.in-Some.given c.in-Some.behind (rw c.past.ensures at c.in-Some.ensures.value) in (
      one-more c.args.kind c.args.at c.args.line.now c.args.builder.now c.loop-stop.builder c.push_piece_value.new.builder c.loop-stop.kept c.kept_behind-kept.result c.loop-stop.stop c.in-Some.given c.in-Some.behind r.0 f c.in_ok-push_piece_value.ensures
          (rw c.len.ensures at c.kept_behind-kept.ensures),
      omega (arith, c.in-Some.ensures.within, ap length c.past.ensures, length-drop c.loop-stop.stop c.args.line.now, c.loop-stop-test.true),
    )

pub returns-after-loop-stop-clause-reaches : goal.returns-after-loop-stop-clause-reaches
returns-after-loop-stop-clause-reaches c =
    all-of c.args.kind c.args.at c.args.line.now c.args.builder.now c.loop-stop.builder c.loop-stop.kept c.loop-stop.stop c.loop-stop.invariant.0 (nothing-left c.args.kind c.args.at c.loop-stop.stop c.args.line.now c.loop-stop-test.false)

pub returns-in_default-clause-reaches : goal.returns-in_default-clause-reaches
returns-in_default-clause-reaches c =
    all-of c.args.kind c.args.at c.args.line.now c.args.builder.now c.loop-stop.builder c.loop-stop.kept c.loop-stop.stop c.loop-stop.invariant.0
    (none-front c.args.kind (c.args.at + c.loop-stop.stop) (drop c.loop-stop.stop c.args.line.now) (none-given (c.args.at + c.loop-stop.stop) c.piece.result c.in_default.not-Some ∙ rw c.past.ensures at c.piece.ensures.value))
