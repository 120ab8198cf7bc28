use Rattle.std.proofs.Common.{arith}
use Rattle.lf_classes.proofs.WordBits.{kept_without, out_without}
use Rattle.lf_classes.proofs.word.without.Goals as goal

pub returns : goal.returns
returns c = record {
  kept = λ i h e. kept_without c.args.word c.args.mask i (omega arith) h e;
  cleared = λ i h e. out_without c.args.word c.args.mask i (omega arith) h e;
}
