use Rattle.lf_scalar.proofs.HeaderRun.{sign-more, digit-more, sign-twice, digit-twice, marks-end, header-ends}
use Rattle.std.proofs.Common.{◌∙◌}
use Rattle.lf_scalar.proofs.header.read_header.Goals as goal
use Rattle.lf_scalar.proofs.header.read_header.Goals.{in-Sign+in-None, in-Digit+in-None-digit}

pub loop-i-preserved : goal.loop-i-preserved
loop-i-preserved c =
    elim c.match-mark_of.branch [
      | in-Sign+in-None w ↦ rw (w.chomp-is, w.digit-is) (sign-more c.args.header.now c.loop-i.chomp c.loop-i.digit c.loop-i.i c.loop-i-test.true c.loop-i.invariant w.in-Sign.sign w.in-Sign.ensures.value w.in-None.is)
      | in-Digit+in-None-digit w ↦ rw (w.chomp-is, w.digit-is) (digit-more c.args.header.now c.loop-i.chomp c.loop-i.digit c.loop-i.i c.loop-i-test.true c.loop-i.invariant w.in-Digit.value w.in-Digit.ensures.value w.in-None-digit.is)
    ]

pub returns-in-Some-clause-value : goal.returns-in-Some-clause-value
returns-in-Some-clause-value c = λ at. sign-twice c.args.header.now c.loop-i.chomp c.loop-i.digit c.loop-i.i c.loop-i-test.true c.loop-i.invariant c.in-Sign.sign _ at c.in-Sign.ensures.value c.in-Some.is

pub returns-in-Some-digit-clause-value : goal.returns-in-Some-digit-clause-value
returns-in-Some-digit-clause-value c = λ at. digit-twice c.args.header.now c.loop-i.chomp c.loop-i.digit c.loop-i.i c.loop-i-test.true c.loop-i.invariant c.in-Digit.value _ at c.in-Digit.ensures.value c.in-Some-digit.is

pub returns-in-Neither-clause-value : goal.returns-in-Neither-clause-value
returns-in-Neither-clause-value c = λ at. c.ended.ensures.value at ∙ marks-end c.args.header.now c.loop-i.chomp c.loop-i.digit c.loop-i.i c.loop-i-test.true c.loop-i.invariant at c.in-Neither.ensures.value

pub returns-clause-value : goal.returns-clause-value
returns-clause-value c = λ at. rw c.header_of.ensures (header-ends c.args.header.now c.loop-i.chomp c.loop-i.digit c.loop-i.i c.loop-i-test.false c.loop-i.invariant at)
