use Rattle.std.proofs.Common.{◌≡◌, ◌<◌, ◌+◌, Bool, false, List, [], None, cond, length, get_or, refl, sym, ap, subst, ◌∙◌, arith}
use Rattle.std.proofs.lemmas.List.{get_or-map, length-map, length-set}
use Rattle.lf_trials.specs.Candidates.{labels_in}
use Rattle.lf_trials.specs.Given.{losing}
use Rattle.lf_candidates.specs.views.ClassTexts.{StandsAt, StandsBefore, name_at}
use Rattle.lf_candidates.proofs.Standing.{all_stand, label_count, loses, next_stands, none_yet}
use Rattle.lf_built.proofs.operands.without_marked.Goals as goal

pub loop-label-init : goal.loop-label-init
loop-label-init c = record { count = refl; stands = λ u lost D within marks stands. none_yet u (losing lost D) c.args.texts }

pub loop-label-preserved : goal.loop-label-preserved
loop-label-preserved c = record {
  count = ap length c.put.ensures ∙ length-set c.loop-label.texts c.loop-label.label c.unless_lost.result ∙ c.loop-label.invariant.count;
  stands = λ u lost D within marks stands.
      let label = c.loop-label.label in
      let many = ap length marks ∙ length-map (labels_in u) lost in
      let listed : label < length (labels_in u) = omega (arith, many, c.loop-label-test.true) in
      let less : label < length u.named = omega (arith, listed, label_count u within) in
      let marked : get_or c.args.marks.now label false ≡ lost (name_at u label) = ap (λ (bs : List Bool). get_or bs label false) marks ∙ get_or-map lost (labels_in u) label [] false listed in
      let now : c.unless_lost.result ≡ cond (lost (name_at u label)) None c.get.result = c.unless_lost.ensures ∙ ap (λ (b : Bool). cond b None c.get.result) marked in
      subst (λ classes. StandsBefore u c.args.texts (label + 1) classes (losing lost D)) (sym c.put.ensures)
      (next_stands u within D (losing lost D) c.args.texts c.loop-label.texts label c.get.result c.unless_lost.result less stands (c.loop-label.invariant.stands u lost D within marks stands) c.get.ensures
      (λ at. subst (λ o. StandsAt u label o (losing lost D)) (sym now) (loses u within lost D label c.get.result at)));
}

pub returns : goal.returns
returns c = λ u lost D within marks stands.
    let many = ap length marks ∙ length-map (labels_in u) lost in
    all_stand u (losing lost D) c.args.texts c.loop-label.label c.loop-label.texts stands.count (omega (arith, many, label_count u within, c.loop-label-test.false)) (c.loop-label.invariant.stands u lost D within marks stands)
