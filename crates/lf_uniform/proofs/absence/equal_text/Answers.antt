use Rattle.std.proofs.Common.{[], cond, ◌∙◌, ap, sym}
use Rattle.std.specs.List.{filter}
use Rattle.std.specs.Option.{option_map_or}
use Rattle.std.specs.Str.{bytes_eq}
use Rattle.lf_ast.specs.Labels.{Bytes}
use Rattle.lf_semantics.specs.Strings.{equal_texts}
use Rattle.lf_trials.specs.Candidates.{first}
use Rattle.lf_uniform.proofs.Absences.{equal_is}
use Rattle.lf_uniform.proofs.absence.equal_text.Goals as goal

pub returns-else-is_metric : goal.returns-else-is_metric
returns-else-is_metric c =
    let text : Bytes = option_map_or (λ text. text) (first (equal_texts (filter (λ m. bytes_eq m.label c.args.label.now) c.args.matchers.now))) [] in
    c.first_equal.ensures ∙ equal_is c.args.label.now c.args.matchers.now ∙ ap (λ b. cond b [] text) (sym c.if-is_metric.false ∙ c.is_metric.ensures)
