use Rattle.std.proofs.Common.{◌≡◌, Option, Some, sym, ◌∙◌, ap, subst}
use Rattle.std.specs.Option.{option_map}
use Rattle.lf_ast.specs.Labels.{Bytes, Labels}
use Rattle.lf_trials.specs.Building.{with_series}
use Rattle.lf_trials.specs.Built.{name_of_series, series_named}
use Rattle.lf_candidates.specs.views.ClassTexts.{text_at}
use Rattle.lf_built.proofs.series.series_unnamed.Goals as goal

pub returns-in_ok-series-in-Some : goal.returns-in_ok-series-in-Some
returns-in_ok-series-in-Some c = λ rules build_rule D are named stands.
    let u = c.args.universe.now in
    let class = c.in-Some.class in
    let name : Some (text_at u 0 class) ≡ name_of_series u rules c.args.matchers.now D = ap (option_map (text_at u 0)) (sym c.in-Some.is) ∙ c.in_ok-class.ensures.name rules D are named stands in
    let made = c.in_ok-series-in-Some.ensures D stands in
    subst (λ (o : Option Bytes). with_series c.in_ok-series-in-Some.series ≡ series_named u rules o D) name (ap (λ (s : Labels). with_series s) made)
