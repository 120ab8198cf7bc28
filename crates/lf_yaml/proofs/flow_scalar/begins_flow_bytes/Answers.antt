use Rattle.std.proofs.Common.{sym, ◌∙◌, refl, true, false, suc, eqb}
use Rattle.std.proofs.lemmas.Bool.{ne_eqb, eq-eqb}
use Rattle.lf_scalar.specs.Cells.{cell, cells}
use Rattle.lf_scalar.specs.Plain.{before_blank}
use Rattle.lf_yaml.proofs.FlowCode.{flow-by}
use Rattle.lf_yaml.proofs.flow_scalar.begins_flow_bytes.Goals as goal

pub returns-then-is_plain_byte : goal.returns-then-is_plain_byte
returns-then-is_plain_byte c =
    λ at. c.if-is_plain_byte.true ∙ sym (flow-by (cell c.args.first at) (cells (suc at) c.args.rest.now) true (eqb c.args.first 45) (before_blank (cells (suc at) c.args.rest.now)) (sym (c.is_plain_byte.ensures at) ∙ c.if-is_plain_byte.true) refl refl)

pub returns-then-first-eq45 : goal.returns-then-first-eq45
returns-then-first-eq45 c =
    λ at. sym (flow-by (cell c.args.first at) (cells (suc at) c.args.rest.now) false true c.is_apart.result (sym (c.is_plain_byte.ensures at) ∙ c.if-is_plain_byte.false) (eq-eqb c.args.first 45 c.if-first-eq45.true) (sym (c.is_apart.ensures (suc at))))

pub returns-else-first-eq45 : goal.returns-else-first-eq45
returns-else-first-eq45 c =
    λ at. ne_eqb c.args.first 45 c.if-first-eq45.false ∙ sym (flow-by (cell c.args.first at) (cells (suc at) c.args.rest.now) false false (before_blank (cells (suc at) c.args.rest.now)) (sym (c.is_plain_byte.ensures at) ∙ c.if-is_plain_byte.false) (ne_eqb c.args.first 45 c.if-first-eq45.false) refl)
