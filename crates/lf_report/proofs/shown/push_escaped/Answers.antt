use Rattle.std.proofs.Common.{false, ◌++◌, codes, ap, ◌∙◌, arith}
use Rattle.std.proofs.lemmas.Fmt.{hex_byte}
use Rattle.std.specs.String.{string_bytes}
use Rattle.lf_report.proofs.shown.push_escaped.Goals as goal

pub returns : goal.returns
returns c =
    let styled = rw c.laid_out.ensures at c.in_ok-write.ensures.bytes in
    let written = rw (c.in_radix.ensures, c.from-code.ensures) at styled in
    written ∙ ap (λ l. string_bytes c.args.text.now ++ (codes "\\x" ++ l)) (hex_byte false c.args.c (omega arith))
