use Rattle.std.proofs.Common.{sym, ◌∙◌, ap, drop, ℕ, List}
use Rattle.std.specs.List.{prefix_len}
use Rattle.lf_lex.specs.Bytes.{is_continuation}
use Rattle.lf_lex.specs.reading.Signs.{sign_at}
use Rattle.lf_lex.proofs.Fronts.{no_sign}
use Rattle.lf_lex.proofs.step.sign.Goals as goal

pub returns-in-None-clause-told : goal.returns-in-None-clause-told
returns-in-None-clause-told c =
    rw c.breach.ensures (no_sign c.args.from.now c.args.at c.prefix_len-more.result (drop c.args.at c.args.text.now) (ap sign_at (sym c.here-rest.ensures.value) ∙ sym c.sign_at.ensures.value ∙ c.in-None.is) (c.prefix_len-more.ensures.value ∙ ap (prefix_len is_continuation) (c.after.ensures ∙ ap (λ (x : List ℕ). drop 1 x) c.here-rest.ensures.value)))
