use Rattle.std.proofs.Common.{◌≡◌, ◌<◌, ◌+◌, Bool, None, cond, length, refl, sym, ap, subst, ◌∙◌, arith}
use Rattle.std.proofs.lemmas.List.{length-set}
use Rattle.lf_trials.specs.Given.{losing}
use Rattle.lf_candidates.specs.views.ClassTexts.{StandsAt, StandsBefore, name_at}
use Rattle.lf_candidates.proofs.Standing.{all_stand, loses, name_read, next_stands, none_yet}
use Rattle.lf_candidates.proofs.given.LabelTexts.lose.Goals as goal

pub loop-label-init : goal.loop-label-init
loop-label-init g c = record { count = refl; stands = λ u D within names stands. none_yet u (losing (g.C.LabelChoice.chooses c.args.choice.now) D) c.args.self.now }

pub loop-label-preserved : goal.loop-label-preserved
loop-label-preserved g c = record {
  count = ap length c.put.ensures ∙ length-set c.loop-label.self c.loop-label.label c.unless_lost.result ∙ c.loop-label.invariant.count;
  stands = λ u D within names stands.
      let label = c.loop-label.label in
      let lost = g.C.LabelChoice.chooses c.args.choice.now in
      let less : label < length u.named = (let count = stands.count in let asked = c.requires in omega (arith, count, asked, c.loop-label-test.true)) in
      let name = name_read u c.args.names.now label c.index-names-label.result names c.loop-label-test.true c.index-names-label.is in
      let now : c.unless_lost.result ≡ cond (lost (name_at u label)) None c.get.result =
      c.unless_lost.ensures ∙ ap (λ (b : Bool). cond b None c.get.result) (c.chooses-lost.ensures ∙ ap lost (c.as_str.ensures ∙ name)) in
      subst (λ classes. StandsBefore u c.args.self.now (label + 1) classes (losing lost D)) (sym c.put.ensures)
      (next_stands u within D (losing lost D) c.args.self.now c.loop-label.self label c.get.result c.unless_lost.result less stands (c.loop-label.invariant.stands u D within names stands) c.get.ensures
      (λ at. subst (λ o. StandsAt u label o (losing lost D)) (sym now) (loses u within lost D label c.get.result at)));
}

pub returns-clause-texts : goal.returns-clause-texts
returns-clause-texts g c = λ u D within names stands.
    all_stand u (losing (g.C.LabelChoice.chooses c.args.choice.now) D) c.args.self.now c.loop-label.label c.loop-label.self stands.count
    (let count = stands.count in let asked = c.requires in omega (arith, count, asked, c.loop-label-test.false)) (c.loop-label.invariant.stands u D within names stands)
