use Rattle.std.proofs.Common.{sym, ◌∙◌, refl, ap, List, ℕ, true, false, suc, get_or, drop}
use Rattle.std.proofs.lemmas.List.{take_rest}
use Rattle.lf_scalar.specs.Cells.{cell, cells}
use Rattle.lf_scalar.specs.Plain.{before_blank, is_sign}
use Rattle.lf_yaml.proofs.EntryCode.{plain-by}
use Rattle.lf_yaml.proofs.entry.begins_plain.Goals as goal

pub returns-then-is_plain_byte : goal.returns-then-is_plain_byte
returns-then-is_plain_byte c =
    λ at. c.if-is_plain_byte.true ∙ sym (plain-by at c.args.text.now true (is_sign (cell (get_or c.args.text.now 0 0) at)) (before_blank (cells (suc at) (drop 1 c.args.text.now))) c.in-len1-up.len_at_least (sym (c.is_plain_byte.ensures at) ∙ c.if-is_plain_byte.true) refl refl)

pub returns-then-is_sign_byte : goal.returns-then-is_sign_byte
returns-then-is_sign_byte c =
    λ at. sym (plain-by at c.args.text.now false true c.is_apart.result c.in-len1-up.len_at_least (sym (c.is_plain_byte.ensures at) ∙ c.if-is_plain_byte.false) (sym (c.is_sign_byte.ensures at) ∙ c.if-is_sign_byte.true) (ap (λ (xs : List ℕ). before_blank (cells (suc at) xs)) (sym (take_rest c.args.text.now 1)) ∙ sym (c.is_apart.ensures (suc at))))

pub returns-else-is_sign_byte : goal.returns-else-is_sign_byte
returns-else-is_sign_byte c =
    λ at. c.if-is_sign_byte.false ∙ sym (plain-by at c.args.text.now false false (before_blank (cells (suc at) (drop 1 c.args.text.now))) c.in-len1-up.len_at_least (sym (c.is_plain_byte.ensures at) ∙ c.if-is_plain_byte.false) (sym (c.is_sign_byte.ensures at) ∙ c.if-is_sign_byte.false) refl)
