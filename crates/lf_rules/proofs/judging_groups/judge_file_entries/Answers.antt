use Rattle.std.proofs.Common.{map, sym, ◌∙◌}
use Rattle.lf_yaml.specs.Tree.{pair}
use Rattle.lf_rules.specs.reading.Files.{groups_faults, missing_faults}
use Rattle.lf_rules.proofs.Folded.{three_parts, told, least_file}
use Rattle.lf_rules.proofs.judging_groups.judge_file_entries.Goals as goal

pub returns : goal.returns
returns c =
    three_parts _ _ _ _ _ _ _ c.judge_keys.ensures
    (told (missing_faults c.args.span) _ _ _ _ c.judge_missing.ensures c.entry_at.ensures)
    (told groups_faults _ _ _ _ c.in_ok-judge_groups.ensures c.given.ensures)
    ∙ sym (least_file _ c.args.span (map pair c.args.entries.now))
