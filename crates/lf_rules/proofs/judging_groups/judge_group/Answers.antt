use Rattle.std.proofs.Common.{map, sym, ◌∙◌}
use Rattle.lf_yaml.specs.Tree.{pair}
use Rattle.lf_rules.specs.reading.Files.{group_name_parts, group_value_parts}
use Rattle.lf_rules.proofs.Folded.{two_groups, least_group}
use Rattle.lf_rules.proofs.judging_groups.judge_group.Goals as goal

pub returns : goal.returns
returns c =
    two_groups _ _ _ (group_name_parts c.args.span (map pair c.args.entries.now)) (group_value_parts (map pair c.args.entries.now)) c.judge_group_name.ensures c.judge_group_values.ensures
    ∙ sym (least_group _ c.args.span (map pair c.args.entries.now))
