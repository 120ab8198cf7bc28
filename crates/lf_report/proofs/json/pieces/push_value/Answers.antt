use Rattle.std.proofs.Common.{◌++◌, ap, ◌∙◌}
use Rattle.std.proofs.lemmas.Result.{on_ok_weaker}
use Rattle.serde_json.specs.Written.{compact_text, has_float}
use Rattle.lf_report.proofs.json.pieces.push_value.Goals as goal

pub returns : goal.returns
returns c = λ it e h.
    on_ok_weaker c.push.result (λ p. p ∙ ap (λ l. c.args.text.now ++ l) (c.as_str.ensures.value ∙ c.in_ok-written.ensures.text (ap has_float e ∙ h) ∙ ap compact_text e)) c.push.ensures.ok
