use Rattle.std.proofs.Common.{sym, ◌∙◌, arith, get_or}
use Rattle.lf_yaml.proofs.Cuts.{small-sign}
use Rattle.lf_yaml.proofs.FlowText.{before-sign, no-more-signs}
use Rattle.lf_yaml.proofs.flow_text.find_flow_sign.Goals as goal

pub returns-then-is_flow_sign-clause-text : goal.returns-then-is_flow_sign-clause-text
returns-then-is_flow_sign-clause-text c = λ at. before-sign at c.loop-i.i c.args.text.now (omega arith) c.loop-i.invariant (λ lt. sym (c.is_flow_sign.ensures 0) ∙ c.if-is_flow_sign.true)

pub loop-i-preserved : goal.loop-i-preserved
loop-i-preserved c = no-more-signs c.args.text.now c.loop-i.i c.loop-i.invariant (sym (c.is_flow_sign.ensures 0) ∙ c.if-is_flow_sign.false)

pub returns-clause-text : goal.returns-clause-text
returns-clause-text c = λ at. before-sign at _ c.args.text.now (omega arith) (λ k h. c.loop-i.invariant k (omega arith)) (λ lt. absurd (omega arith))

pub returns-then-is_flow_sign-clause-ascii : goal.returns-then-is_flow_sign-clause-ascii
returns-then-is_flow_sign-clause-ascii c = λ lt. small-sign (get_or c.args.text.now c.loop-i.i 0) 0 (sym (c.is_flow_sign.ensures 0) ∙ c.if-is_flow_sign.true)
