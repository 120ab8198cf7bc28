use Rattle.std.proofs.Common.{map}
use Rattle.lf_yaml.specs.Tree.{pair}
use Rattle.lf_rules.specs.reading.Files.{kind_faults, alert_faults}
use Rattle.lf_rules.proofs.Folded.{three_parts, told_of_two, told_of_three}
use Rattle.lf_rules.proofs.judging_rules.judge_rule_keys.Goals as goal

pub returns : goal.returns
returns c =
    three_parts _ _ _ _ _ _ _ c.judge_keys.ensures
    (told_of_three (kind_faults c.args.span) _ _ _ _ _ _ _ _ c.judge_kind.ensures c.records_first.ensures c.requires.recorded c.requires.alerted)
    (told_of_two (λ r a. alert_faults r a (map pair c.args.entries.now)) _ _ _ _ _ _ c.judge_alert_keys.ensures c.requires.recorded c.requires.alerted)
