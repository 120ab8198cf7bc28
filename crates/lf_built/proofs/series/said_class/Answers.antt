use Rattle.std.proofs.Common.{◌≡◌, true, false, Some, sym, ◌∙◌, ap}
use Rattle.lf_trials.specs.Names.{is_scraped_name}
use Rattle.lf_candidates.specs.views.ClassTexts.{class_at, text_at}
use Rattle.lf_candidates.proofs.Labelled.{some_label}
use Rattle.lf_candidates.proofs.Standing.{candidate_text}
use Rattle.lf_built.proofs.SeriesNames.{first_stands, has_first, said_name}
use Rattle.lf_built.proofs.series.said_class.Goals as goal

pub get-requires : goal.get-requires
get-requires c = has_first c.args.universe.now c.requires.universe c.args.texts.now c.requires.texts.0 c.requires.texts.1

pub returns-then-is_scraped_name-clause-name : goal.returns-then-is_scraped_name-clause-name
returns-then-is_scraped_name-clause-name c = λ rules D are stands.
    let u = c.args.universe.now in
    let within = c.requires.universe in
    let class = c.in_ok-class.class in
    let is : Some class ≡ class_at c.args.texts.now 0 = c.in_ok-class.ensures in
    let first = first_stands u within c.args.texts.now D (Some class) stands is in
    let text = candidate_text u within 0 (some_label u within) class c.candidate.result.now first.0 c.candidate.ensures in
    let scraped : true ≡ is_scraped_name rules (text_at u 0 class) = sym c.if-is_scraped_name.true ∙ c.is_scraped_name.ensures rules are ∙ ap (is_scraped_name rules) (c.as_str.ensures ∙ text) in
    said_name rules D (text_at u 0 class) true first.1 scraped

pub returns-else-is_scraped_name-clause-name : goal.returns-else-is_scraped_name-clause-name
returns-else-is_scraped_name-clause-name c = λ rules D are stands.
    let u = c.args.universe.now in
    let within = c.requires.universe in
    let class = c.in_ok-class.class in
    let is : Some class ≡ class_at c.args.texts.now 0 = c.in_ok-class.ensures in
    let first = first_stands u within c.args.texts.now D (Some class) stands is in
    let text = candidate_text u within 0 (some_label u within) class c.candidate.result.now first.0 c.candidate.ensures in
    let scraped : false ≡ is_scraped_name rules (text_at u 0 class) = sym c.if-is_scraped_name.false ∙ c.is_scraped_name.ensures rules are ∙ ap (is_scraped_name rules) (c.as_str.ensures ∙ text) in
    said_name rules D (text_at u 0 class) false first.1 scraped
