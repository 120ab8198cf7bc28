use Rattle.std.proofs.Common.{◌∙◌, ap, arith}
use Rattle.lf_judge.proofs.SoFar.{all_files, more_files, side_by_side, whole_files}
use Rattle.lf_judge.proofs.judging.told_files.Goals as goal

pub loop-k-preserved : goal.loop-k-preserved
loop-k-preserved c =
    more_files c.args.files.now c.args.refusals.now c.loop-k.k c.get.result.now c.refusal_at.result c.loop-k.told c.push.new.self c.in_ok-file.file (omega (arith, c.loop-k-test.true, c.len-k-end.ensures))
    (omega (arith, c.loop-k-test.true, c.len-k-end.ensures, c.requires)) c.get.ensures.read c.refusal_at.ensures c.loop-k.invariant c.in_ok-file.ensures c.in_ok-push.ensures.ok

pub returns : goal.returns
returns c = λ contents e.
    whole_files c.args.files.now c.args.refusals.now c.loop-k.k c.loop-k.told c.requires (omega (arith, c.loop-k-test.false, c.len-k-end.ensures)) c.loop-k.invariant
    ∙ ap (side_by_side c.args.files.now) e ∙ all_files c.args.files.now contents
