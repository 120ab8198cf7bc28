use Rattle.std.proofs.Common.{◌∙◌, ap, subst, sym, get_or, ℕ}
use Rattle.std.specs.Str.{IsUtf8}
use Rattle.lf_lex.specs.reading.Strings.{gives, places_of}
use Rattle.lf_lex.proofs.Fronts.{value_utf8, value_wrong}
use Rattle.lf_lex.proofs.step.value.Goals as goal

pub returns-in-Ok-clause-told : goal.returns-in-Ok-clause-told
returns-in-Ok-clause-told c =
    let e = c.in_ok-text-in-Ok.ensures ∙ c.in-Ok.ensures.cases.0 in
    value_utf8 c.args.from.now c.args.at c.args.quote c.args.inner.now c.in_ok-text-in-Ok.text (e ∙ c.as_slice.ensures.value ∙ c.in_ok-bytes.ensures) (subst IsUtf8 (sym e) c.in-Ok.ensures.cases.1)

pub returns-clause-told : goal.returns-clause-told
returns-clause-told c =
    rw c.breach.ensures (value_wrong c.args.from.now c.args.at c.args.quote c.args.inner.now c.as_slice.result.now c.place_of_byte.result (c.as_slice.ensures.value ∙ c.in_ok-bytes.ensures) c.in-Err.ensures.cases.0 (c.place_of_byte.ensures.value ∙ ap (λ (n : ℕ). get_or (places_of (gives c.args.quote 0 0 c.args.inner.now)) n 0) (c.valid_up_to.ensures ∙ c.in-Err.ensures.valid_len)))
