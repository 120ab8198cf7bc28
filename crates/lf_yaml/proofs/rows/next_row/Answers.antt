use Rattle.std.proofs.Common.{sym, ◌∙◌, ap}
use Rattle.std.proofs.lemmas.Str.{IsUtf8-had}
use Rattle.lf_yaml.proofs.RowsAfter.{row-boundary, part-of-file, rows-past}
use Rattle.lf_yaml.specs.Rows.{rows_of}
use Rattle.lf_yaml.proofs.FlowPlaces.{row-rest}
use Rattle.lf_yaml.proofs.rows.next_row.Goals as goal

pub returns-in-Some-clause-boundary : goal.returns-in-Some-clause-boundary
returns-in-Some-clause-boundary c =
    row-boundary c.args.source.bytes.now c.loop-next.next c.in-Some.row.at c.line_of-line.result.text.now c.in-Some.row.text.now (IsUtf8-had c.args.source.bytes.now c.args.source.utf8) c.loop-next.invariant.1 c.line_of-line.ensures.room c.line_of-line.ensures.text
    c.in-Some.ensures.place.0 c.in-Some.ensures.place.1 c.in-Some.row.full c.in-Some.ensures.spaces

pub returns-in-Some-clause-text : goal.returns-in-Some-clause-text
returns-in-Some-clause-text c =
    part-of-file c.args.source.bytes.now c.loop-next.next c.in-Some.row.at c.line_of-line.result.text.now c.in-Some.row.text.now c.in-Some.ensures.place.0 c.line_of-line.ensures.text c.in-Some.ensures.place.1

pub returns-clause-rows : goal.returns-clause-rows
returns-clause-rows c = sym c.loop-next.invariant.0 ∙ rows-past c.args.source.bytes.now c.loop-next.next c.loop-next-test.false

pub returns-in-Some-clause-rest : goal.returns-in-Some-clause-rest
returns-in-Some-clause-rest c =
    (row-rest c.args.source.bytes.now c.loop-next.next c.in-Some.row.at c.line_of-line.result.text.now c.in-Some.row.text.now c.in-Some.ensures.place.0 c.line_of-line.ensures.rest c.in-Some.ensures.place.1 c.in-Some.row.full).0

pub returns-in-Some-clause-below : goal.returns-in-Some-clause-below
returns-in-Some-clause-below c =
    let same = (row-rest c.args.source.bytes.now c.loop-next.next c.in-Some.row.at c.line_of-line.result.text.now c.in-Some.row.text.now c.in-Some.ensures.place.0 c.line_of-line.ensures.rest c.in-Some.ensures.place.1 c.in-Some.row.full).1 in
    c.line_of-line.ensures.below ∙ ap rows_of (sym same)
