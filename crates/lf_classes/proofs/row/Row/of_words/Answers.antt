use Rattle.std.proofs.Common.{length, sym, ◌∙◌, ap, arith}
use Rattle.lf_classes.proofs.WordLists.{length_bits}
use Rattle.lf_classes.proofs.row.Row.of_words.Goals as goal

pub all_live-live-requires : goal.all_live-live-requires
all_live-live-requires c = ap length c.in_ok-bits.ensures ∙ length_bits c.args.words.now c.total.result ∙ c.total.ensures.sum

pub invariant_of-result : goal.invariant_of-result
invariant_of-result c = record {
  some = c.total.ensures.labels;
  total = ap length c.in_ok-bits.ensures ∙ length_bits c.args.words.now c.total.result ∙ c.total.ensures.sum;
  known = λ e. sym c.all_live-live.ensures ∙ e;
  small = omega (arith, c.total.ensures.small, c.total.ensures.sum);
}
