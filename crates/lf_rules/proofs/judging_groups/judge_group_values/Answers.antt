use Rattle.lf_base.specs.declared.kind.Kind.TheVariants.{BadDuration, BadLimit}
use Rattle.lf_rules.specs.reading.Files.{is_time, is_limit, text_faults, rules_faults}
use Rattle.lf_rules.proofs.Folded.{four_parts, told}
use Rattle.lf_rules.proofs.judging_groups.judge_group_values.Goals as goal

pub returns : goal.returns
returns c =
    four_parts _ _ _ _ _ _ _ _ _ (told (text_faults is_time BadDuration) _ _ _ _ c.judge_text.ensures c.given.ensures)
    (told (text_faults is_limit BadLimit) _ _ _ _ c.judge_text-2.ensures c.given-2.ensures)
    (told (text_faults is_time BadDuration) _ _ _ _ c.judge_text-3.ensures c.given-3.ensures)
    (told rules_faults _ _ _ _ c.judge_rules.ensures c.given-4.ensures)
