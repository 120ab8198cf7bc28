use Rattle.std.proofs.Common.{◌≡◌, ◌+◌, ◌≤◌, ◌++◌, length, drop, false}
use Rattle.lf_templates.specs.Actions.{rows}
use Rattle.lf_templates.specs.reading.Templates.{total, Named}
use Rattle.lf_templates.proofs.RowLaws.{told}
use Rattle.lf_templates.proofs.finding.push_references.Given as goal

abbrev pub invariant-loop-i : goal.invariant-loop-i
invariant-loop-i l = record {
  same : l.found ++ told l.from l.text (rows l.inside l.at (drop l.i l.tokens)) ≡ l.initial.found ++ told l.from l.text (rows false l.start l.tokens);
  room : l.at + total (drop l.i l.tokens) ≤ length l.text;
  named : Named l.text l.at (drop l.i l.tokens);
}
