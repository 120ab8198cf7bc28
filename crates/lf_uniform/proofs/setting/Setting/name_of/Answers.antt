use Rattle.std.proofs.Common.{◌≡◌, ◌<◌, ◌+◌, length, sym, ◌∙◌, ap, subst}
use Rattle.std.proofs.lemmas.Result.{IfOk-weaker}
use Rattle.lf_semantics.specs.Listing.{named_at}
use Rattle.lf_candidates.specs.views.ClassTexts.{text_at}
use Rattle.lf_candidates.proofs.Labelled.{some_label}
use Rattle.lf_candidates.proofs.Standing.{candidate_text}
use Rattle.lf_uniform.specs.views.Settings.{Setting}
use Rattle.lf_uniform.proofs.setting.Setting.name_of.Goals as goal

pub candidate-requires-clause-label : goal.candidate-requires-clause-label
candidate-requires-clause-label c = some_label c.self.inside.universe.now c.self.invariant.0

pub returns : goal.returns
returns c =
    let u = c.self.inside.universe.now in
    let within = c.self.invariant.0 in
    let small = subst (λ (v : Setting). c.args.class < length (named_at v.universe 0) + 2) (sym c.self.view_is) c.requires in
    let text = candidate_text u within 0 (some_label u within) c.args.class c.candidate.result.now small c.candidate.ensures in
    IfOk-weaker c.copy.result (λ t. t ≡ c.candidate.result.now) (λ name. name ≡ text_at c.args.self.now.universe 0 c.args.class)
    (λ t e. e ∙ text ∙ ap (λ (v : Setting). text_at v.universe 0 c.args.class) c.self.view_is) c.copy.ensures
