use Rattle.std.proofs.Common.{◌+◌}
use Rattle.lf_scalar.proofs.BlockRun.{some-rest, block-wrong, block-broken, block-right}
use Rattle.lf_scalar.proofs.block.read_block.Goals as goal

pub returns-in-Err : goal.returns-in-Err
returns-in-Err c = record {
  gives =
      block-wrong c.args.joining c.args.above c.args.at c.args.rest.now c.line_end-first.result.text c.line_end-first.result.feed c.requires.begins
      (c.line_end-first.ensures.first c.args.at (some-rest c.args.joining c.args.at c.args.rest.now c.requires.begins))
      c.in-Err.wrong c.fault_at.result (rw (c.past-line.ensures, c.before-2.ensures) at (c.in-Err.ensures.value (c.args.at + 1))) (rw (c.past-line.ensures, c.before-2.ensures) at c.fault_at.ensures);
}

pub returns-in-Err-push_body : goal.returns-in-Err-push_body
returns-in-Err-push_body c = record {
  gives =
      block-broken c.args.joining c.args.above c.args.at c.args.rest.now c.line_end-first.result.text c.line_end-first.result.feed c.requires.begins
      (c.line_end-first.ensures.first c.args.at (some-rest c.args.joining c.args.at c.args.rest.now c.requires.begins))
      c.line_end-first.ensures.within.1 c.in-Ok.header (rw (c.past-line.ensures, c.before-2.ensures) at (c.in-Ok.ensures.value (c.args.at + 1)))
      c.in-Err-push_body.refusal (rw c.past-body.ensures at c.in-Err-push_body.ensures);
}

pub returns : goal.returns
returns c = record {
  gives =
      block-right c.args.joining c.args.above c.args.at c.args.rest.now c.line_end-first.result.text c.line_end-first.result.feed c.requires.begins
      (c.line_end-first.ensures.first c.args.at (some-rest c.args.joining c.args.at c.args.rest.now c.requires.begins))
      c.line_end-first.ensures.within.1 c.in-Ok.header (rw (c.past-line.ensures, c.before-2.ensures) at (c.in-Ok.ensures.value (c.args.at + 1)))
      c.new-builder.result c.push_body.new.builder c.end-end.result c.new-builder.ensures (rw c.past-body.ensures at c.in-Ok-push_body.ensures) c.end-end.ensures;
}
