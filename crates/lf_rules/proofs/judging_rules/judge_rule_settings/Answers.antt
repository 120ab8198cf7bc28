use Rattle.std.proofs.Common.{true, false}
use Rattle.lf_base.specs.declared.kind.Kind.TheVariants.{BadDuration}
use Rattle.lf_rules.specs.reading.Files.{is_time, text_faults, settings_faults}
use Rattle.lf_rules.proofs.Folded.{four_parts, told}
use Rattle.lf_rules.proofs.judging_rules.judge_rule_settings.Goals as goal

pub returns : goal.returns
returns c =
    four_parts _ _ _ _ _ _ _ _ _ (told (text_faults is_time BadDuration) _ _ _ _ c.judge_text.ensures c.given.ensures)
    (told (text_faults is_time BadDuration) _ _ _ _ c.judge_text-2.ensures c.given-2.ensures)
    (told (settings_faults true) _ _ _ _ c.judge_settings.ensures c.given-3.ensures)
    (told (settings_faults false) _ _ _ _ c.judge_settings-2.ensures c.given-4.ensures)
