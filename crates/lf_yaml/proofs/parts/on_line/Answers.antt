use Rattle.lf_yaml.specs.views.Cursor.{rows_after}
use Rattle.lf_yaml.proofs.Cuts.{next-utf8}
use Rattle.lf_yaml.proofs.parts.on_line.Goals as goal
use Rattle.std.proofs.lemmas.Str.{IsUtf8-had}

pub returns-else-is_mark-clause-part : goal.returns-else-is_mark-clause-part
returns-else-is_mark-clause-part c =
    record {
      text_is = c.in-Some.ensures.text;
      utf8 = next-utf8 c.args.source.bytes.now c.args.next c.in-Some.row (rows_after c.args.source.bytes.now c.in-Some.behind) (IsUtf8-had c.args.source.bytes.now c.args.source.utf8) c.in-Some.row.full c.in-Some.ensures.rows c.in-Some.ensures.boundary c.in-Some.ensures.text;
      start = c.in-Some.ensures.start;
      rest = c.in-Some.ensures.rest;
      below = c.in-Some.ensures.below;
    }
