use Rattle.std.proofs.Common.{sym, ◌∙◌, arith, ap, get_or, length, ◌+◌}
use Rattle.std.proofs.lemmas.List.{length-drop}
use Rattle.std.specs.Prelude.{option_map}
use Rattle.lf_scalar.specs.Cells.{cell}
use Rattle.lf_scalar.specs.reading.Quoted.{as_piece, as_escape}
use Rattle.lf_scalar.proofs.EscapeLaws.{escape-width, counted-is, counted-within}
use Rattle.lf_scalar.proofs.escapes.escape.Goals as goal

pub returns-in-Some-clause-value : goal.returns-in-Some-clause-value
returns-in-Some-clause-value c = λ b. ap (option_map (as_escape b)) c.counted.ensures ∙ counted-is b _ c.numbered.result ∙ rw c.past.ensures at c.numbered.ensures.value b (cell (get_or c.args.rest.now 0 0) c.args.at)
    ∙ sym (ap (option_map as_piece) (escape-width b c.args.at c.in-Some.width c.args.rest.now (omega arith) c.in-Some.ensures.value))

pub returns-in-Some-clause-within : goal.returns-in-Some-clause-within
returns-in-Some-clause-within c =
    rw c.counted.ensures (counted-within (1 + c.in-Some.width) c.in-Some.width (length c.past.result.now) (length c.args.rest.now) c.numbered.result c.numbered.ensures.long
    (λ le. omega (arith, le, ap length c.past.ensures, length-drop 1 c.args.rest.now)))
