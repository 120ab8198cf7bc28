use Rattle.std.proofs.Common.{◌<◌, length, sym, arith}
use Rattle.std.proofs.lemmas.Option.{get_or_from_slice_get}
use Rattle.lf_report.proofs.Lines.{files_more}
use Rattle.lf_laws.proofs.Slices.{some_at}
use Rattle.lf_report.proofs.text.push_files.Goals as goal

pub loop-k-preserved : goal.loop-k-preserved
loop-k-preserved c =
    let files = c.args.report.now.files in
    let k = c.loop-k.k in
    let inside : k < length files = omega (arith, c.loop-k-test.true, c.len-k-end.ensures) in
    let found = some_at files k inside in
    let file = found.0 in
    files_more c.args.report.now k file c.args.text.now c.loop-k.text _ inside (sym (get_or_from_slice_get files k file file found.1)) c.loop-k.invariant (c.in_ok-push_file.ensures file found.1)
