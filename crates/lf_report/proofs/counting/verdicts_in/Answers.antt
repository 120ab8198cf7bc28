use Rattle.std.proofs.Common.{ℕ, cond, ap, arith}
use Rattle.lf_report.specs.views.Totals.{is_of}
use Rattle.lf_report.proofs.Counted.{count_more}
use Rattle.lf_report.proofs.counting.verdicts_in.Goals as goal

pub loop-verdict-preserved : goal.loop-verdict-preserved
loop-verdict-preserved c =
    let more = count_more (is_of c.args.kind) c.args.verdicts.now c.loop-verdict.verdict-index c.verdict-item.result c.loop-verdict-test.true c.verdict-item.is in
    record {
      count_is = omega (arith, more, c.loop-verdict.invariant.count_is, c.one_if-count.ensures.count, ap {B = ℕ} (λ b. cond b 1 0) c.is_of.ensures);
      most = omega (arith, c.loop-verdict.invariant.most, c.one_if-count.ensures.most);
    }
