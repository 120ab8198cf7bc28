use Rattle.std.proofs.Common.{◌<◌, length, get_or, ap, sym, ◌∙◌, arith}
use Rattle.lf_report.proofs.Lines.{label_lines_end, label_lines_more}
use Rattle.lf_report.proofs.text.labels.push_labels.Goals as goal

pub loop-k-preserved : goal.loop-k-preserved
loop-k-preserved c = λ names shows.
    let labels = c.args.labels.now in
    let said = c.args.verdicts.now in
    let k = c.loop-k.k in
    let inside : k < length labels = omega (arith, c.loop-k-test.true, c.min-k-end.ensures) in
    let among : k < length said = omega (arith, c.loop-k-test.true, c.min-k-end.ensures) in
    label_lines_more c.args.report.now names labels said k c.as_str-head.result.now c.index-verdicts-k.result c.args.text.now c.loop-k.text c.push_label.new.text
    shows inside among (c.as_str-head.ensures ∙ c.index-labels-k.is ∙ ap (λ x. get_or labels k x) (sym c.as_str-head.ensures)) c.index-verdicts-k.is (c.loop-k.invariant names shows) c.in_ok-push_label.ensures

pub returns : goal.returns
returns c = λ names shows.
    let labels = c.args.labels.now in
    let said = c.args.verdicts.now in
    let k = c.loop-k.k in
    label_lines_end c.args.report.now names labels said k c.args.text.now c.loop-k.text shows (omega (arith, c.loop-k.auto.k-end, c.min-k-end.ensures)) (omega (arith, c.loop-k.auto.k-end, c.min-k-end.ensures))
    (λ inside among. omega (arith, inside, among, c.loop-k-test.false, c.min-k-end.ensures)) (c.loop-k.invariant names shows)
