use Rattle.std.proofs.Common.{◌≡◌, ◌+◌, ℕ, List, drop, ap, sym, subst, ◌∙◌}
use Rattle.std.proofs.lemmas.Bool.{eqb-true}
use Rattle.lf_scalar.specs.Cells.{cells, Fails}
use Rattle.lf_scalar.specs.Lines.{after_blanks}
use Rattle.lf_scalar.specs.Scalars.{value as scalar_value}
use Rattle.lf_yaml.specs.Flow.{next_on}
use Rattle.lf_yaml.specs.reading.Trees.{no_sign}
use Rattle.lf_yaml.specs.views.Shown.{shown}
use Rattle.lf_yaml.proofs.KeyCode.{quoted-found, quoted-missing}
use Rattle.lf_yaml.proofs.flow_key.quoted_key.Goals as goal

pub no_sign-requires : goal.no_sign-requires
no_sign-requires c = record { place = c.behind.ensures.place c.args.source.bytes.now c.requires.part (c.in-Ok.ensures.cut c.requires.part.utf8) }

pub returns-then-is_colon-clause-gives : goal.returns-then-is_colon-clause-gives
returns-then-is_colon-clause-gives c =
    let after : after_blanks (cells (c.args.part.at + c.in-Ok.len) (drop c.in-Ok.len c.args.part.text.now)) ≡ cells (c.args.part.at + c.in-Ok.len + c.blanks.result) (drop c.blanks.result (drop c.in-Ok.len c.args.part.text.now)) =
    subst (λ (xs : List ℕ). after_blanks (cells (c.args.part.at + c.in-Ok.len) xs) ≡ cells (c.args.part.at + c.in-Ok.len + c.blanks.result) (drop c.blanks.result xs)) c.past.ensures (c.blanks.ensures.after (c.args.part.at + c.in-Ok.len)) in
    quoted-found c.args.part.at c.in-Ok.len c.blanks.result c.args.part.text.now after c.args.source.bytes.now c.args.quote (shown c.args.part).first (shown c.args.part).rest
    (scalar_value c.in-Ok.scalar) (sym c.is_far_part.ensures ∙ c.if-is_far_part.false) c.in-Ok.ensures.gives c.in-Ok.ensures.left (eqb-true _ 58 (sym c.is_colon.ensures ∙ c.if-is_colon.true))

pub returns-else-is_colon-clause-gives : goal.returns-else-is_colon-clause-gives
returns-else-is_colon-clause-gives c =
    let after : after_blanks (cells (c.args.part.at + c.in-Ok.len) (drop c.in-Ok.len c.args.part.text.now)) ≡ cells (c.args.part.at + c.in-Ok.len + c.blanks.result) (drop c.blanks.result (drop c.in-Ok.len c.args.part.text.now)) =
    subst (λ (xs : List ℕ). after_blanks (cells (c.args.part.at + c.in-Ok.len) xs) ≡ cells (c.args.part.at + c.in-Ok.len + c.blanks.result) (drop c.blanks.result xs)) c.past.ensures (c.blanks.ensures.after (c.args.part.at + c.in-Ok.len)) in
    subst (Fails c.no_sign.result)
    (ap (λ (n : ℕ). no_sign (next_on c.args.source.bytes.now n)) c.behind.ensures.at
    ∙ sym (quoted-missing c.args.part.at c.in-Ok.len c.blanks.result c.args.part.text.now after c.args.source.bytes.now c.args.quote (shown c.args.part).first (shown c.args.part).rest
    (scalar_value c.in-Ok.scalar) (sym c.is_far_part.ensures ∙ c.if-is_far_part.false) c.in-Ok.ensures.gives c.in-Ok.ensures.left (sym c.is_colon.ensures ∙ c.if-is_colon.false)))
    c.no_sign.ensures
