use Rattle.lf_rules.specs.reading.Files.{scalar_faults, missing_faults}
use Rattle.lf_rules.proofs.Folded.{three_parts, told}
use Rattle.lf_rules.proofs.judging_groups.judge_group_name.Goals as goal

pub returns : goal.returns
returns c =
    three_parts _ _ _ _ _ _ _ c.judge_keys.ensures
    (told (missing_faults c.args.span) _ _ _ _ c.judge_missing.ensures c.given_entry.ensures)
    (told scalar_faults _ _ _ _ c.judge_scalar.ensures c.given.ensures)
