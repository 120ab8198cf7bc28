use Rattle.std.proofs.lemmas.Str.{IsUtf8-from_ascii}
use Rattle.lf_templates.proofs.finding.reference_of.Goals as goal

pub unreachable-requires : goal.unreachable-requires
unreachable-requires c =
    c.in-Err.ensures.cases.0 (rw (c.before-name.ensures, c.after.ensures, c.as_bytes.ensures.value) (IsUtf8-from_ascii _ c.requires.row.ascii))
