use Rattle.std.proofs.Common.{◌<◌, length, arith}
use Rattle.lf_report.proofs.Groups.{groups_more}
use Rattle.lf_report.proofs.places.rules_by_file.Goals as goal

pub loop-k-preserved : goal.loop-k-preserved
loop-k-preserved c =
    let rules = c.args.report.now.rules in
    let k = c.loop-k.k in
    let inside : k < length rules = omega (arith, c.loop-k-test.true, c.len-k-end.ensures) in
    let within : c.get.result.now.file < length c.loop-k.groups.items = omega (arith, c.requires k c.get.result.now c.get.ensures.value, c.loop-k.invariant.each_file) in
    groups_more c.args.report.now.files rules k c.get.result.now c.loop-k.groups.items _ inside c.get.ensures.read within c.loop-k.invariant c.in_ok-put_in.ensures
