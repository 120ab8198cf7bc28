use Rattle.std.proofs.Common.{◌≡◌, ◌<◌, List, length, ◌∙◌, ap, subst, arith}
use Rattle.std.specs.Prelude.{IfOk}
use Rattle.lf_ast.specs.Labels.{Bytes, Labels}
use Rattle.lf_ast.specs.Selectors.{metric}
use Rattle.lf_candidates.proofs.Labelled.{metric_first, some_label}
use Rattle.lf_candidates.proofs.Standing.{label_count, name_read}
use Rattle.lf_trials.specs.Candidates.{labels_in}
use Rattle.lf_trials.specs.Given.{giving, label_set, with_text}
use Rattle.lf_uniform.proofs.NamedSeries.{named_set, same_map}
use Rattle.lf_uniform.proofs.series.series.Goals as goal

pub returns : goal.returns
returns c = λ D stands.
    let u = c.args.universe.now in
    let within = c.requires.universe in
    let names : List Bytes = c.args.names.now in
    let label : Bytes = c.index-labels-0.result in
    let nameless : Labels = c.in_ok-nameless.nameless in
    let some : 0 < length c.args.labels.now = let m = ap length c.requires.labels in let n = label_count u within in let l = some_label u within in omega (arith, m, n, l) in
    let first : label ≡ metric = name_read u c.args.labels.now 0 label c.requires.labels some c.index-labels-0.is ∙ metric_first u within in
    let rest = c.in_ok-nameless.ensures D stands in
    subst (λ (x : List Labels). IfOk c.under_names.result (λ series. series ≡ x))
    (same_map (λ name. with_text label name nameless) (λ name. label_set (labels_in u) (giving metric name D)) names
    (λ name. ap (λ (l : Bytes). with_text l name nameless) first ∙ ap (with_text metric name) rest ∙ named_set u within name D))
    c.under_names.ensures
