use Rattle.std.proofs.Common.{sym, ◌∙◌, cond}
use Rattle.lf_scalar.proofs.Scan.{scanned-skip, scanned-takes, scanned-passes, scanned-closes, scanned-end}
use Rattle.lf_scalar.proofs.quotes.find_closing.Goals as goal
use Rattle.lf_scalar.proofs.quotes.find_closing.Goals.{then-skip, else-skip+in-TakesNext, else-skip+in-Passes}

pub returns-in-Closes-clause-value : goal.returns-in-Closes-clause-value
returns-in-Closes-clause-value c = sym (scanned-closes c.args.kind c.args.at c.args.line.now c.loop-i.i c.loop-i-test.true c.in-Closes.ensures) ∙ rw c.if-skip.false at c.loop-i.invariant

pub loop-i-preserved : goal.loop-i-preserved
loop-i-preserved c =
    elim c.if-skip.branch [
      | then-skip w ↦ rw w.skip-is (sym (scanned-skip c.args.kind c.args.at c.args.line.now c.loop-i.i c.loop-i-test.true) ∙ rw w.if-skip.true at c.loop-i.invariant)
      | else-skip+in-TakesNext w ↦ rw w.skip-is (sym (scanned-takes c.args.kind c.args.at c.args.line.now c.loop-i.i c.loop-i-test.true w.in-TakesNext.ensures) ∙ rw w.if-skip.false at c.loop-i.invariant)
      | else-skip+in-Passes w ↦ rw (w.skip-is, w.if-skip.false) (sym (scanned-passes c.args.kind c.args.at c.args.line.now c.loop-i.i c.loop-i-test.true w.in-Passes.ensures) ∙ rw w.if-skip.false at c.loop-i.invariant)
    ]

pub returns-clause-value : goal.returns-clause-value
returns-clause-value c = sym (scanned-end c.args.kind c.args.at c.args.line.now c.loop-i.i (cond c.loop-i.skip 1 0) c.loop-i-test.false) ∙ c.loop-i.invariant
