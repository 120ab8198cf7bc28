use Rattle.std.proofs.Common.{◌≡◌, ◌+◌, ◌<◌, ◌∷◌, length, length-drop, length-take, drop, arith, ap, sym, ◌∙◌, subst}
use Rattle.lf_scalar.specs.Cells.{cells}
use Rattle.lf_scalar.specs.Lines.{line, lines_at}
use Rattle.lf_scalar.proofs.PlainCode.{lines-none}
use Rattle.lf_yaml.proofs.PlainLines.{Onto, onto-wrong, onto-end}
use Rattle.lf_yaml.proofs.flow_plain.push_behind.Goals as goal

pub returns : goal.returns
returns c =
    onto-end c.args.feed (lines_at c.args.at c.args.rest.now) c.args.builder.now c.loop-place.builder c.loop-place.folded
    (subst (Onto c.args.feed (lines_at c.args.at c.args.rest.now) c.args.builder.now c.loop-place.builder c.loop-place.folded) (lines-none c.args.at c.loop-place.place c.args.rest.now c.loop-place-test.false) c.loop-place.invariant.2)

pub returns-in-Err : goal.returns-in-Err
returns-in-Err c =
    let at = c.args.at + c.loop-place.place in
    let left = c.past-left.result.now in
    let end = c.line_end-end.result in
    let full : 0 < length left = omega (arith, c.loop-place-test.true, ap length c.past-left.ensures, length-drop c.loop-place.place c.args.rest.now) in
    let first : lines_at at (drop c.loop-place.place c.args.rest.now) ≡ line (cells at c.before-text.result.now) (at + end.feed) ∷ lines_at (at + (end.feed + 1)) (drop (end.feed + 1) left) =
    ap (lines_at at) (sym c.past-left.ensures) ∙ c.line_end-end.ensures.first at full ∙ ap (λ xs. line (cells at xs) (at + end.feed) ∷ lines_at (at + (end.feed + 1)) (drop (end.feed + 1) left)) (sym c.before-text.ensures) in
    onto-wrong c.args.feed (lines_at c.args.at c.args.rest.now) c.args.builder.now c.loop-place.builder c.loop-place.folded (line (cells at c.before-text.result.now) (at + end.feed)) (lines_at (at + (end.feed + 1)) (drop (end.feed + 1) left))
    (subst (Onto c.args.feed (lines_at c.args.at c.args.rest.now) c.args.builder.now c.loop-place.builder c.loop-place.folded) first c.loop-place.invariant.2) c.in-Err.refusal c.push_step.new.builder c.in-Err.ensures.steps

pub push_step-requires-clause-room : goal.push_step-requires-clause-room
push_step-requires-clause-room c =
    let room = c.requires.lines (omega (arith, c.loop-place-test.true)) in
    omega (arith, room, ap length c.before-text.ensures, length-take c.line_end-end.result.text c.past-left.result.now, c.line_end-end.ensures.within.0, c.line_end-end.ensures.within.1, ap length c.past-left.ensures, length-drop c.loop-place.place c.args.rest.now)
