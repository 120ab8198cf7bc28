use Rattle.lf_scalar.proofs.QuotedLine.{ends-line, ends-quote, ends-backslash, ends-bad}
use Rattle.lf_scalar.proofs.quoted.push_line.Goals as goal

pub returns-then-reach-line : goal.returns-then-reach-line
returns-then-reach-line c = λ b. ends-line c.args.kind c.args.at c.args.line.now c.args.builder.now c.push_pieces.new.builder c.in-Ok.reach.kept c.in-Ok.reach.stop c.in-Ok.ensures.reaches b c.truncate.new.self c.if-reach-line.true c.truncate.ensures

pub returns-then-line-reach-ne92 : goal.returns-then-line-reach-ne92
returns-then-line-reach-ne92 c = λ b. ends-quote c.args.kind c.args.at c.args.line.now c.args.builder.now c.push_pieces.new.builder c.in-Ok.reach.kept c.in-Ok.reach.stop c.in-Ok.ensures.reaches b c.if-reach-line.false c.if-line-reach-ne92.true

pub returns-then-reach-line-2 : goal.returns-then-reach-line-2
returns-then-reach-line-2 c = λ b. ends-backslash c.args.kind c.args.at c.args.line.now c.args.builder.now c.push_pieces.new.builder c.in-Ok.reach.kept c.in-Ok.reach.stop c.in-Ok.ensures.reaches b c.if-reach-line.false c.if-line-reach-ne92.false c.if-reach-line-2.true

pub returns : goal.returns
returns c = λ b. ends-bad c.args.kind c.args.at c.args.line.now c.args.builder.now c.push_pieces.new.builder c.in-Ok.reach.kept c.in-Ok.reach.stop c.in-Ok.ensures.reaches b c.if-reach-line-2.false c.if-line-reach-ne92.false
