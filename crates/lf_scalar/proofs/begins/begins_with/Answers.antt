use Rattle.std.proofs.Common.{sym, ◌∙◌, refl, true, false}
use Rattle.lf_scalar.specs.Cells.{cell}
use Rattle.lf_scalar.specs.Plain.{is_sign}
use Rattle.lf_scalar.specs.reading.Begins.{is_full_byte}
use Rattle.lf_scalar.proofs.FirstByte.{plain-begins}
use Rattle.lf_scalar.proofs.begins.begins_with.Goals as goal

pub returns-then-is_plain_byte : goal.returns-then-is_plain_byte
returns-then-is_plain_byte c =
    rw (c.in-Plain.is, c.in-Some.is) (c.if-is_plain_byte.true ∙ sym (plain-begins c.in-Some.byte c.args.second true (is_sign (cell c.in-Some.byte 0)) (is_full_byte c.args.second) (sym (c.is_plain_byte.ensures 0) ∙ c.if-is_plain_byte.true) refl refl))

pub returns-then-is_sign_byte : goal.returns-then-is_sign_byte
returns-then-is_sign_byte c =
    rw (c.in-Plain.is, c.in-Some.is)
    (c.is_full.ensures ∙ sym (plain-begins c.in-Some.byte c.args.second false true (is_full_byte c.args.second) (sym (c.is_plain_byte.ensures 0) ∙ c.if-is_plain_byte.false) (sym (c.is_sign_byte.ensures 0) ∙ c.if-is_sign_byte.true) refl))

pub returns-else-is_sign_byte : goal.returns-else-is_sign_byte
returns-else-is_sign_byte c =
    rw (c.in-Plain.is, c.in-Some.is)
    (c.if-is_sign_byte.false ∙ sym (plain-begins c.in-Some.byte c.args.second false false (is_full_byte c.args.second) (sym (c.is_plain_byte.ensures 0) ∙ c.if-is_plain_byte.false) (sym (c.is_sign_byte.ensures 0) ∙ c.if-is_sign_byte.false) refl))
