use Rattle.std.proofs.Common.{◌<◌, length, sym, ◌∙◌, arith}
use Rattle.lf_trials.specs.Candidates.{labels_in}
use Rattle.lf_candidates.proofs.Standing.{label_count}
use Rattle.lf_worlds.specs.views.Tried.{leaves_both}
use Rattle.lf_worlds.proofs.OpenLabels.{found_open, passed_by}
use Rattle.lf_worlds.proofs.leaving.has_open_label.Goals as goal

pub returns-then-leaves_both : goal.returns-then-leaves_both
returns-then-leaves_both c =
    let u = c.args.universe.now in
    let count = label_count u c.labels-label-end.ensures.within in
    let less : c.loop-label.label < length (labels_in u) = omega (arith, count, c.labels-label-end.ensures.count, c.loop-label-test.true) in
    found_open (leaves_both u c.args.row.now) (labels_in u) c.loop-label.label less c.loop-label.invariant (sym c.leaves_both.ensures ∙ c.if-leaves_both.true)

pub loop-label-preserved : goal.loop-label-preserved
loop-label-preserved c =
    let u = c.args.universe.now in
    let count = label_count u c.labels-label-end.ensures.within in
    let less : c.loop-label.label < length (labels_in u) = omega (arith, count, c.labels-label-end.ensures.count, c.loop-label-test.true) in
    passed_by (leaves_both u c.args.row.now) (labels_in u) c.loop-label.label less c.loop-label.invariant (sym c.leaves_both.ensures ∙ c.if-leaves_both.false)
