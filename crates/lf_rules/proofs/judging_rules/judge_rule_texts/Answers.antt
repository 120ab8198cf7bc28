use Rattle.std.proofs.Common.{ap, ◌∙◌}
use Rattle.std.specs.Prelude.{option_map}
use Rattle.lf_base.specs.declared.kind.Kind.TheVariants.{BadName}
use Rattle.lf_base.specs.Names.{is_metric_name}
use Rattle.lf_rules.specs.Mappings.{Pairing}
use Rattle.lf_rules.specs.reading.Files.{text_faults, scalar_faults, missing_faults}
use Rattle.lf_rules.proofs.Folded.{four_parts, told}
use Rattle.lf_rules.proofs.judging_rules.judge_rule_texts.Goals as goal

pub returns : goal.returns
returns c =
    four_parts _ _ _ _ _ _ _ _ _ (told (text_faults is_metric_name BadName) _ _ _ _ c.judge_text.ensures (c.value_of.ensures ∙ ap (option_map (λ (e : Pairing). e.1)) c.requires.recorded))
    (told scalar_faults _ _ _ _ c.judge_scalar.ensures (c.value_of-2.ensures ∙ ap (option_map (λ (e : Pairing). e.1)) c.requires.alerted))
    (told (missing_faults c.args.span) _ _ _ _ c.judge_missing.ensures c.given_entry-expr.ensures)
    (told scalar_faults _ _ _ _ c.judge_scalar-2.ensures (c.value_of-3.ensures ∙ ap (option_map (λ (e : Pairing). e.1)) c.given_entry-expr.ensures))
