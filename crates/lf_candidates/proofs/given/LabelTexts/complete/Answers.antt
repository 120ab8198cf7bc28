use Rattle.std.proofs.Common.{◌+◌, length, refl, sym, ap, subst, ◌∙◌, arith}
use Rattle.std.proofs.lemmas.List.{length-set}
use Rattle.lf_trials.specs.Given.{Given, completed_by}
use Rattle.lf_candidates.specs.views.ClassTexts.{StandsBefore}
use Rattle.lf_candidates.proofs.Standing.{all_stand, next_stands, none_yet}
use Rattle.lf_candidates.proofs.given.LabelTexts.complete.Goals as goal

pub loop-label-init : goal.loop-label-init
loop-label-init c = record { count = refl; stands = λ whole D is stands. none_yet c.args.universe.now (completed_by c.args.universe.now whole D) c.args.self.now }

pub loop-label-preserved : goal.loop-label-preserved
loop-label-preserved c = record {
  count = ap length c.put.ensures ∙ length-set c.loop-label.self c.loop-label.label c.completed_class-class.result ∙ c.loop-label.invariant.count;
  stands = λ whole D is stands.
      let u = c.args.universe.now in
      let E : Given = completed_by u whole D in
      subst (λ classes. StandsBefore u c.args.self.now (c.loop-label.label + 1) classes E) (sym c.put.ensures)
      (next_stands u c.requires.universe D E c.args.self.now c.loop-label.self c.loop-label.label c.get.result c.completed_class-class.result (omega (arith, c.loop-label-test.true, c.labels-label-end.ensures.count)) stands
      (c.loop-label.invariant.stands whole D is stands) c.get.ensures (c.completed_class-class.ensures whole D is));
}

pub returns : goal.returns
returns c = λ whole D is stands.
    all_stand c.args.universe.now (completed_by c.args.universe.now whole D) c.args.self.now c.loop-label.label c.loop-label.self c.requires.count
    (omega (arith, c.loop-label-test.false, c.labels-label-end.ensures.count)) (c.loop-label.invariant.stands whole D is stands)
