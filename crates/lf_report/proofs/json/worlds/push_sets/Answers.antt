use Rattle.std.proofs.Common.{arith}
use Rattle.lf_report.specs.Json.{set_data}
use Rattle.lf_report.proofs.Pieces.{mapped_more}
use Rattle.lf_report.proofs.json.worlds.push_sets.Goals as goal

pub loop-k-preserved : goal.loop-k-preserved
loop-k-preserved c =
    mapped_more set_data c.args.sets.now c.loop-k.k c.index-sets-k.result c.args.text.now (omega (arith, c.loop-k-test.true)) c.index-sets-k.is
    c.loop-k.invariant c.in_ok-push_comma.ensures c.in_ok-push_set.ensures
