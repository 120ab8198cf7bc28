use Rattle.std.proofs.Common.{◌∙◌, sym}
use Rattle.lf_yaml.specs.views.Shown.{shown}
use Rattle.lf_yaml.proofs.PlainLines.{tab-ends, sign-ends, mark-tells}
use Rattle.lf_yaml.proofs.flow_plain.row_goes_on.Goals as goal

pub returns-then-row-eq9 : goal.returns-then-row-eq9
returns-then-row-eq9 c = λ rows. tab-ends (shown c.args.row) rows c.if-row-eq9.true

pub returns-then-is_flow_sign : goal.returns-then-is_flow_sign
returns-then-is_flow_sign c = λ rows. sign-ends (shown c.args.row) rows c.if-row-eq9.false (sym (c.is_flow_sign.ensures c.args.row.at) ∙ c.if-is_flow_sign.true)

pub returns : goal.returns
returns c = λ rows. mark-tells (shown c.args.row) rows _ c.if-row-eq9.false (sym (c.is_flow_sign.ensures c.args.row.at) ∙ c.if-is_flow_sign.false) c.is_mark.ensures
