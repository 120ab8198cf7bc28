use Rattle.std.proofs.Common.{sym, ◌∙◌, arith}
use Rattle.lf_lex.specs.reading.Escapes.{given_by}
use Rattle.lf_lex.proofs.PlacedBytes.{place-skip, within-skip, place-here, place-past, within-past, gives-end}
use Rattle.lf_lex.proofs.string.place_of_byte.Goals as goal
use Rattle.lf_lex.proofs.string.place_of_byte.Goals.{then-skip-gt0, else-skip-gt0+else-left-len}

pub loop-i-preserved : goal.loop-i-preserved
loop-i-preserved c =
    elim c.if-skip-gt0.branch [
      | then-skip-gt0 w ↦ rw (w.left-is, w.skip-is) (record {
        same = sym (place-skip c.args.quote c.args.inner.now c.loop-i.i c.loop-i-test.true c.loop-i.left c.loop-i.skip w.if-skip-gt0.true) ∙ c.loop-i.invariant.same;
        within = within-skip c.args.quote c.args.inner.now c.loop-i.i c.loop-i-test.true c.loop-i.left c.loop-i.skip w.if-skip-gt0.true c.loop-i.invariant.within;
      })
      | else-skip-gt0+else-left-len w ↦
          let e = rw w.after.ensures at w.piece-escaped.ensures in
          let le = rw w.given_len-len.ensures at w.if-left-len.false in
          rw (w.left-is, w.skip-is, w.given_len-len.ensures) (record {
            same = sym (place-past c.args.quote c.args.inner.now c.loop-i.i c.loop-i-test.true c.loop-i.left c.loop-i.skip w.if-skip-gt0.false (given_by w.piece-escaped.result.0) w.piece-escaped.result.1 e le) ∙ c.loop-i.invariant.same;
            within = within-past c.args.quote c.args.inner.now c.loop-i.i c.loop-i-test.true c.loop-i.left c.loop-i.skip w.if-skip-gt0.false (given_by w.piece-escaped.result.0) w.piece-escaped.result.1 e le c.loop-i.invariant.within;
          })
    ]

pub returns-then-left-len-clause-value : goal.returns-then-left-len-clause-value
returns-then-left-len-clause-value c =
    sym (place-here c.args.quote c.args.inner.now c.loop-i.i c.loop-i-test.true c.loop-i.left c.loop-i.skip c.if-skip-gt0.false (given_by c.piece-escaped.result.0) c.piece-escaped.result.1 (rw c.after.ensures at c.piece-escaped.ensures) (rw c.given_len-len.ensures at c.if-left-len.true)) ∙ c.loop-i.invariant.same

pub unreachable-requires : goal.unreachable-requires
unreachable-requires c = let h = rw (gives-end c.args.quote c.args.inner.now c.loop-i.i c.loop-i.i c.loop-i.skip c.loop-i-test.false) at c.loop-i.invariant.within in omega arith
