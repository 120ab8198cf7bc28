use Rattle.lf_fix.proofs.recording.rule_row.Goals as goal

pub returns-clause-represents : goal.returns-clause-represents
returns-clause-represents c = c.rule_row_with.ensures.represents
