use Rattle.std.proofs.Common.{◌≡◌, ℕ, Bool, cond, false, [], Option, None, sym, ◌∙◌, ap}
use Rattle.std.specs.Option.{option_map}
use Rattle.std.specs.Str.{bytes_eq}
use Rattle.lf_ast.specs.Labels.{Bytes, Labels}
use Rattle.lf_ast.specs.Selectors.{metric}
use Rattle.lf_trials.specs.Building.{Building, one_more, with_series}
use Rattle.lf_trials.specs.Candidates.{labels_in}
use Rattle.lf_trials.specs.Given.{giving, label_set}
use Rattle.lf_candidates.specs.views.ClassTexts.{text_at}
use Rattle.lf_candidates.proofs.Labelled.{some_label}
use Rattle.lf_candidates.proofs.Standing.{known_text}
use Rattle.lf_built.proofs.series.series_named.Goals as goal

pub returns : goal.returns
returns c = λ rules build_rule matchers D unrecorded stands.
    let u = c.args.universe.now in
    let within = c.requires.universe in
    let name = c.args.name.now in
    let class : ℕ = c.class_of-class.result in
    let text : text_at u 0 class ≡ name = ap (text_at u 0) c.class_of-class.ensures.number ∙ known_text u within 0 (some_label u within) name c.requires.known in
    let made = c.in_ok-series.ensures D stands in
    let some : bytes_eq name [] ≡ false = sym c.eq.ensures ∙ c.if-eq.false in
    let recorded : Option Building = option_map one_more (build_rule name D) in
    let scraped : Option Building = with_series (label_set (labels_in u) (giving metric name D)) in
    ap (λ (s : Labels). with_series s) (made ∙ ap (λ (t : Bytes). label_set (labels_in u) (giving metric t D)) text)
    ∙ sym (ap (λ (b : Bool). cond b recorded (cond (bytes_eq name []) None scraped)) unrecorded ∙ ap (λ (b : Bool). cond b None scraped) some)
