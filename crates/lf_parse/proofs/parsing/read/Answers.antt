use Rattle.std.proofs.Common.{◌≡◌, None, sym, ◌∙◌, ap}
use Rattle.lf_parse.specs.Tokens.{marked}
use Rattle.lf_parse.specs.reading.Machine.{ParserState, state, step_in, step, finish}
use Rattle.lf_parse.specs.views.Values.{frames_of, mode_of, next, option_tree}
use Rattle.lf_parse.proofs.Answering.{answer_stuck, answer_end}
use Rattle.lf_parse.proofs.parsing.read.Goals as goal

pub returns-in-None : goal.returns-in-None
returns-in-None c =
    let s : ParserState = state (frames_of c.loop-token.stack.items) (mode_of c.loop-token.mode) in
    let stuck : None ≡ step s (marked c.token-item.result) = sym (ap (next c.advance.new.stack.items) c.in-None.is) ∙ c.in_ok-next.ensures ∙ ap (step_in s.frames s.mode) c.marked.ensures in
    rw c.syntax.ensures (answer_stuck c.args.tokens.now c.args.end c.loop-token.token-index c.token-item.result s c.loop-token-test.true c.token-item.is c.loop-token.invariant stuck)

pub returns-in-None-2 : goal.returns-in-None-2
returns-in-None-2 c =
    let s : ParserState = state (frames_of c.loop-token.stack.items) (mode_of c.loop-token.mode) in
    let stuck : None ≡ finish s = sym (ap option_tree c.in-None-2.is) ∙ c.in_ok-expr.ensures in
    rw c.syntax-in-None-2.ensures (answer_end c.args.tokens.now c.args.end c.loop-token.token-index s c.loop-token-test.false c.loop-token.invariant stuck)
