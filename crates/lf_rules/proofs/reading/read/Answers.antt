use Rattle.std.proofs.Common.{List, map, Ok, sym, ap, ◌∙◌}
use Rattle.std.proofs.lemmas.Result.{err_from_is_err_and}
use Rattle.lf_rules.specs.Sources.{Source, source_in}
use Rattle.lf_rules.proofs.reading.read.Goals as goal

pub returns-in_err-rules : goal.returns-in_err-rules
returns-in_err-rules c =
    let p = err_from_is_err_and c.from_residual.result c.from_residual.ensures.1 in
    rw (p.1, p.2) c.in_err-rules.ensures

pub returns : goal.returns
returns c = c.in_ok-rules.ensures ∙ ap (λ (rs : List Source). Ok rs) (ap (map source_in) (sym c.as_slice.ensures) ∙ sym c.in_ok-rules_of.ensures)
