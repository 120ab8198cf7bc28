use Rattle.std.proofs.Common.{◌<◌, ◌≤◌, ◌++◌, false, length, get_or, ap, sym, ◌∙◌, arith}
use Rattle.lf_report.specs.views.Pieces.{listed}
use Rattle.lf_report.proofs.Pieces.{labels_items_all, labels_json_more}
use Rattle.lf_report.proofs.json.labels.push_each.Goals as goal

pub loop-k-preserved : goal.loop-k-preserved
loop-k-preserved c =
    let report = c.args.report.now in
    let labels = report.universe in
    let verdicts = c.args.verdicts.now in
    let k = c.loop-k.k in
    let inside : k < length labels = omega (arith, c.loop-k-test.true, c.min-k-end.ensures, c.len.ensures) in
    let among : k < length verdicts = omega (arith, c.loop-k-test.true, c.min-k-end.ensures, c.len.ensures) in
    let is = c.as_str-label.ensures ∙ c.get.ensures.read ∙ ap (λ x. get_or labels k x) (sym c.as_str-label.ensures) in
    labels_json_more report labels verdicts k c.as_str-label.result.now c.index-verdicts-k.result c.args.text.now inside among is c.index-verdicts-k.is
    c.loop-k.invariant c.in_ok-push_comma.ensures c.in_ok-push_label.ensures

pub returns : goal.returns
returns c =
    let report = c.args.report.now in
    let labels = report.universe in
    let verdicts = c.args.verdicts.now in
    let k = c.loop-k.k in
    let within : k ≤ length labels = omega (arith, c.loop-k.auto.k-end, c.min-k-end.ensures, c.len.ensures) in
    let among : k ≤ length verdicts = omega (arith, c.loop-k.auto.k-end, c.min-k-end.ensures, c.len.ensures) in
    c.loop-k.invariant ∙ ap (λ items. c.args.text.now ++ listed false items) (labels_items_all report labels verdicts k within among
    (λ i j. omega (arith, i, j, c.loop-k-test.false, c.min-k-end.ensures, c.len.ensures)))
