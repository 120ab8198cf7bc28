use Rattle.std.proofs.Common.{◌≡◌, ◌∙◌, ap, sym, length, suc, List, ℕ}
use Rattle.lf_scalar.specs.Cells.{cells}
use Rattle.lf_scalar.specs.Lines.{lines, first_text}
use Rattle.lf_scalar.specs.Scalars.{begins, source_at}
use Rattle.lf_scalar.proofs.FirstByte.{begins-is}
use Rattle.lf_scalar.proofs.begins.begins_scalar.Goals as goal

pub returns-then-is_char_start : goal.returns-then-is_char_start
returns-then-is_char_start c =
    let end = length c.args.bytes.now in
    let e : c.begins_with-begins.result ≡ begins c.args.style (first_text (lines end (source_at c.args.bytes.now c.args.at))) =
    begins-is c.args.style end c.args.at c.past-rest.result.now c.past.result.now c.first_byte.result c.first_byte-2.result c.begins_with-begins.result c.past.ensures (c.first_byte.ensures c.args.at end) (c.first_byte-2.ensures (suc c.args.at) end) c.begins_with-begins.ensures
    ∙ ap (λ (bs : List ℕ). begins c.args.style (first_text (lines end (cells c.args.at bs)))) c.past-rest.ensures in
    (λ t. (c.is_char_start.ensures.0 c.if-is_char_start.true, sym e ∙ t), λ h. e ∙ h.1)
