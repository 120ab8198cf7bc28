use Rattle.std.proofs.Common.{◌≡◌, ◌++◌, length, map, reverse}
use Rattle.lf_built.specs.declared.row_making.RuleRow.{RuleRow}
use Rattle.lf_built.proofs.prepared.apart.Given as goal

abbrev pub invariant-loop-row : goal.invariant-loop-row
invariant-loop-row l = record {
  parts : map (λ (row : RuleRow). row.parts) l.initial.rows ≡ map (λ (row : RuleRow). row.parts) l.rows ++ reverse l.apart.parts.items;
  sought : map (λ (row : RuleRow). row.names) l.initial.rows ≡ map (λ (row : RuleRow). row.names) l.rows ++ reverse l.apart.sought.items;
  own : map (λ (row : RuleRow). row.own) l.initial.rows ≡ map (λ (row : RuleRow). row.own) l.rows ++ reverse l.apart.own.items;
  recorded : map (λ (row : RuleRow). row.recorded) l.initial.rows ≡ map (λ (row : RuleRow). row.recorded) l.rows ++ reverse l.apart.recorded.items;
}

abbrev pub decreases-loop-row : goal.decreases-loop-row
decreases-loop-row l = length l.rows
