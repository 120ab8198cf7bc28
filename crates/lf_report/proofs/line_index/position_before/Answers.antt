use Rattle.std.proofs.Common.{Some, ap, sym, ◌∙◌}
use Rattle.std.proofs.lemmas.Option.{slice_get-get_or}
use Rattle.lf_report.proofs.LineIndexes.{lt_from}
use Rattle.lf_report.proofs.line_index.position_before.Goals as goal

pub returns-in-Some : goal.returns-in-Some
returns-in-Some c =
    let mark = c.in-Some.mark.now in
    c.requires _ mark (slice_get-get_or c.args.marks.now _ mark (lt_from _ _ c.in-Some.ensures.lookup.0) ∙ ap Some (sym c.in-Some.ensures.lookup.1))
