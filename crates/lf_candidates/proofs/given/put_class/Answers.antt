use Rattle.std.proofs.Common.{◌≡◌, ℕ, Option, Some, sym, ap, subst, ◌∙◌}
use Rattle.std.specs.Prelude.{OnOk}
use Rattle.std.specs.Option.{option_map_or}
use Rattle.lf_ast.specs.Labels.{Bytes, Labels}
use Rattle.lf_trials.specs.Given.{with_text}
use Rattle.lf_candidates.specs.views.ClassTexts.{StandsAt}
use Rattle.lf_candidates.proofs.Standing.{candidate_text}
use Rattle.lf_candidates.proofs.given.put_class.Goals as goal

pub returns-in-Some : goal.returns-in-Some
returns-in-Some c = λ D stands.
    let u = c.args.universe.now in
    let label = c.args.label in
    let class = c.in-Some.class in
    let old = c.args.labels.now in
    let P : Option ℕ → Type 0 = λ o. StandsAt u label o D in
    let at : StandsAt u label (Some class) D = subst P c.in-Some.is stands in
    let text = candidate_text u c.requires.universe label c.requires.label class c.candidate.result.now at.0 c.candidate.ensures in
    let given : D c.args.name.now ≡ Some c.candidate.result.now = ap D c.requires.name ∙ at.1 ∙ ap Some (sym text) in
    let made : with_text c.args.name.now c.candidate.result.now old ≡ option_map_or (λ t. with_text c.args.name.now t old) (D c.args.name.now) old =
    sym (ap (λ (o : Option Bytes). option_map_or (λ t. with_text c.args.name.now t old) o old) given) in
    subst (λ (s : Labels). OnOk c.put_text.result (c.put_text.new.labels ≡ s)) made c.put_text.ensures
