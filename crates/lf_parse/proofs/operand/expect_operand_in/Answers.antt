use Rattle.std.proofs.Common.{◌≡◌, List, ◌∷◌, ◌∙◌, ap, subst, IfOk}
use Rattle.lf_parse.specs.reading.Machine.{ParserFrame, expect_operand}
use Rattle.lf_parse.specs.views.Values.{token_of, frame_of, frames_of, next}
use Rattle.lf_parse.proofs.Frames.{frames_push}
use Rattle.lf_parse.proofs.operand.expect_operand_in.Goals as goal

pub returns : goal.returns
returns c =
    let e : frames_of c.push.new.self.items ≡ frame_of c.args.begun ∷ frames_of c.args.stack.now.items = ap frames_of c.in_ok-push.ensures.items ∙ frames_push c.args.stack.now.items c.args.begun in
    subst (λ (fs : List ParserFrame). IfOk c.expect_operand.result (λ p. next c.expect_operand.new.stack.items p ≡ expect_operand fs (token_of c.args.token))) e c.expect_operand.ensures
