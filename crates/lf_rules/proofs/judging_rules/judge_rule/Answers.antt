use Rattle.std.proofs.Common.{map, sym, ◌∙◌}
use Rattle.lf_yaml.specs.Tree.{pair}
use Rattle.lf_rules.specs.reading.Files.{rule_key_parts, rule_text_parts, rule_setting_parts}
use Rattle.lf_rules.proofs.Folded.{three_groups, least_rule}
use Rattle.lf_rules.proofs.judging_rules.judge_rule.Goals as goal

pub returns : goal.returns
returns c =
    three_groups _ _ _ _ (rule_key_parts c.args.span (map pair c.args.entries.now)) (rule_text_parts c.args.span (map pair c.args.entries.now)) (rule_setting_parts (map pair c.args.entries.now))
    c.judge_rule_keys.ensures c.judge_rule_texts.ensures c.judge_rule_settings.ensures
    ∙ sym (least_rule _ c.args.span (map pair c.args.entries.now))
