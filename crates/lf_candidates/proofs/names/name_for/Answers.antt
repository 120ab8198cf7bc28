use Rattle.std.proofs.Common.{◌≡◌, ◌<◌, ◌&&◌, Bool, false, true, sym, ap, ◌∙◌, arith, below_more}
use Rattle.std.specs.List.{find}
use Rattle.lf_ast.specs.Labels.{Bytes}
use Rattle.lf_trials.specs.Candidates.{candidates}
use Rattle.lf_trials.specs.Names.{is_scraped_name, passes_as_name}
use Rattle.lf_candidates.specs.views.ClassTexts.{text_at}
use Rattle.lf_candidates.proofs.FirstClass.{first_passing, none_passing}
use Rattle.lf_candidates.proofs.Labelled.{metric_first, some_label}
use Rattle.lf_candidates.proofs.names.name_for.Goals as goal

pub loop-class-preserved : goal.loop-class-preserved
loop-class-preserved c = λ rules are.
    let u = c.args.universe.now in
    let within = c.requires in
    let class = c.loop-class.class in
    let names : Bytes → Bool = λ name. is_scraped_name rules name && passes_as_name c.args.matchers.now name in
    let here : names (text_at u 0 class) ≡ false = sym (c.in_ok-fits.ensures rules are) ∙ c.if-fits.false in
    below_more (λ j. names (text_at u 0 j) ≡ false) class (c.loop-class.invariant rules are) here

pub returns-then-fits-clause-name : goal.returns-then-fits-clause-name
returns-then-fits-clause-name c = λ rules are.
    let u = c.args.universe.now in
    let within = c.requires in
    let class = c.loop-class.class in
    let names : Bytes → Bool = λ name. is_scraped_name rules name && passes_as_name c.args.matchers.now name in
    let less : class < c.classes-class-end.result = c.loop-class-test.true in
    let here : names (text_at u 0 class) ≡ true = sym (c.in_ok-fits.ensures rules are) ∙ c.if-fits.true in
    first_passing u within 0 (some_label u within) names class (omega (arith, less, c.classes-class-end.ensures)) here (c.loop-class.invariant rules are) ∙ ap (λ n. find names (candidates u n)) (metric_first u within)

pub returns-clause-name : goal.returns-clause-name
returns-clause-name c = λ rules are.
    let u = c.args.universe.now in
    let within = c.requires in
    let names : Bytes → Bool = λ name. is_scraped_name rules name && passes_as_name c.args.matchers.now name in
    none_passing u within 0 (some_label u within) names (λ j h. c.loop-class.invariant rules are j (omega (arith, h, c.loop-class-test.false, c.classes-class-end.ensures))) ∙ ap (λ n. find names (candidates u n)) (metric_first u within)
