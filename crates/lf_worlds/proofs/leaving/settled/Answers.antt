use Rattle.std.proofs.Common.{◌≡◌, ◌<◌, ◌+◌, length, sym, subst, arith}
use Rattle.lf_trials.specs.Candidates.{labels_in}
use Rattle.lf_candidates.proofs.Standing.{label_count}
use Rattle.lf_worlds.specs.views.Tried.{leaves_both}
use Rattle.lf_worlds.proofs.LabelVerdicts.{AreTold, all_told, one_told}
use Rattle.lf_worlds.proofs.OpenLabels.{none_open}
use Rattle.lf_worlds.proofs.leaving.settled.Goals as goal

pub by_row-requires-clause-settled : goal.by_row-requires-clause-settled
by_row-requires-clause-settled c =
    let u = c.args.universe.now in
    let count = label_count u c.labels-label-end.ensures.within in
    let less : c.loop-label.label < length (labels_in u) = omega (arith, count, c.labels-label-end.ensures.count, c.loop-label-test.true) in
    none_open (leaves_both u c.args.row.now) (labels_in u) c.loop-label.label c.requires.settled less

pub loop-label-preserved : goal.loop-label-preserved
loop-label-preserved c = λ env rules i.
    let u = c.args.universe.now in
    let row = c.args.row.now in
    let less : c.loop-label.label < length u.named = omega (arith, c.labels-label-end.ensures.count, c.loop-label-test.true) in
    subst (AreTold u env rules i row (c.loop-label.label + 1)) (sym c.in_ok-push.ensures.ok)
    (one_told u env rules i row c.labels-label-end.ensures.within c.loop-label.label c.loop-label.verdicts c.by_row.result less (c.loop-label.invariant env rules i) (c.by_row.ensures env rules i))

pub returns : goal.returns
returns c = λ env rules i.
    let u = c.args.universe.now in
    let end : c.loop-label.label ≡ length u.named = omega (arith, c.labels-label-end.ensures.count, c.loop-label-test.false, c.loop-label.auto.label-end) in
    all_told u env rules i c.args.row.now c.labels-label-end.ensures.within c.loop-label.label c.loop-label.verdicts end (c.loop-label.invariant env rules i)
