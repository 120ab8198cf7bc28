use Rattle.std.proofs.Common.{sym, ◌∙◌}
use Rattle.std.proofs.lemmas.List.{append-nil}
use Rattle.lf_lex.specs.reading.Escapes.{given_by}
use Rattle.lf_lex.proofs.PlacedBytes.{bytes-skip, bytes-piece, gives-end}
use Rattle.lf_lex.proofs.string.value_bytes.Goals as goal
use Rattle.lf_lex.proofs.string.value_bytes.Goals.{then-skip-gt0, else-skip-gt0+in_ok-push}

pub loop-i-preserved : goal.loop-i-preserved
loop-i-preserved c =
    elim c.if-skip-gt0.branch [
      | then-skip-gt0 w ↦ rw (w.bytes-is, w.skip-is) (sym (bytes-skip c.args.quote c.args.inner.now c.loop-i.i c.loop-i-test.true c.loop-i.bytes.items c.loop-i.skip w.if-skip-gt0.true) ∙ c.loop-i.invariant)
      | else-skip-gt0+in_ok-push w ↦ rw (w.bytes-is, w.skip-is, w.in_ok-push.ensures) (sym (bytes-piece c.args.quote c.args.inner.now c.loop-i.i c.loop-i-test.true c.loop-i.bytes.items c.loop-i.skip w.if-skip-gt0.false (given_by w.piece-escaped.result.0) w.piece-escaped.result.1 (rw w.after.ensures at w.piece-escaped.ensures)) ∙ c.loop-i.invariant)
    ]

pub returns : goal.returns
returns c = sym (rw (gives-end c.args.quote c.args.inner.now c.loop-i.i c.loop-i.i c.loop-i.skip c.loop-i-test.false) (append-nil c.loop-i.bytes.items)) ∙ c.loop-i.invariant
