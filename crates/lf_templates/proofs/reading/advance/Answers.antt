use Rattle.std.proofs.Common.{◌≡◌, arith, true, false, drop, Some, None, ◌+◌, ◌≤◌, length}
use Rattle.lf_templates.specs.declared.token.TokenContext.TheVariants as places
use Rattle.lf_templates.specs.Templates.{opens}
use Rattle.lf_templates.specs.reading.Templates.{lexed, total, action_at}
use Rattle.lf_templates.proofs.Advancing.{byte_advances, open_stops, action_advances, action_stops, carried, after_is, steps_as}
use Rattle.lf_templates.proofs.reading.advance.Goals as goal

pub returns-then-not-opens : goal.returns-then-not-opens
returns-then-not-opens c =
    let e : opens (drop c.args.at c.args.text.now) ≡ false = after_is c.args.at c.args.text.now c.as_bytes-bytes.result.now c.after.result.now c.as_bytes-bytes.ensures.value c.after.ensures c.opens.result c.opens.ensures false c.if-not-opens.true in
    (byte_advances c.args.from.now c.args.text.now c.args.state c.args.at c.requires.within e, omega arith, omega arith)

pub returns-in-None : goal.returns-in-None
returns-in-None c =
    let e : opens (drop c.args.at c.args.text.now) ≡ true = after_is c.args.at c.args.text.now c.as_bytes-bytes.result.now c.after.result.now c.as_bytes-bytes.ensures.value c.after.ensures c.opens.result c.opens.ensures true c.if-not-opens.false in
    let f : None ≡ lexed places.Start 0 (drop (c.args.at + 2) c.args.text.now) = rw (c.in-None.is, c.as_bytes-bytes.ensures.value) at c.in_ok-read_action.ensures.tokens in
    carried _ _ (open_stops c.args.from.now c.args.text.now c.args.state c.args.at c.requires.within e f) c.endless.result c.endless.ensures

pub returns-in-Ok : goal.returns-in-Ok
returns-in-Ok c =
    let e : opens (drop c.args.at c.args.text.now) ≡ true = after_is c.args.at c.args.text.now c.as_bytes-bytes.result.now c.after.result.now c.as_bytes-bytes.ensures.value c.after.ensures c.opens.result c.opens.ensures true c.if-not-opens.false in
    let ls = c.in-Some.action.tokens.items in
    let f : Some ls ≡ lexed places.Start 0 (drop (c.args.at + 2) c.args.text.now) = rw (c.in-Some.is, c.as_bytes-bytes.ensures.value) at c.in_ok-read_action.ensures.tokens in
    let g : c.in-Some.action.end ≡ c.args.at + 2 + total ls + 2 = rw c.in-Some.is at c.in_ok-read_action.ensures.end in
    let h : c.in-Some.action.end ≤ length c.args.text.now = rw (c.in-Some.is, c.as_bytes-bytes.ensures.value) at c.in_ok-read_action.ensures.within in
    let k : c.in-Some.action.end ≡ c.args.at + (total ls + 4) = omega arith in
    (action_advances c.args.from.now c.args.text.now c.args.state c.args.at c.requires.within ls c.in-Some.action.end e f k h c.in-Ok.state (steps_as c.args.from.now c.args.text.now c.args.state (action_at c.args.at ls) _ _ c.in-Ok.is c.step.ensures), omega arith, h)

pub returns : goal.returns
returns c =
    let e : opens (drop c.args.at c.args.text.now) ≡ true = after_is c.args.at c.args.text.now c.as_bytes-bytes.result.now c.after.result.now c.as_bytes-bytes.ensures.value c.after.ensures c.opens.result c.opens.ensures true c.if-not-opens.false in
    let ls = c.in-Some.action.tokens.items in
    let f : Some ls ≡ lexed places.Start 0 (drop (c.args.at + 2) c.args.text.now) = rw (c.in-Some.is, c.as_bytes-bytes.ensures.value) at c.in_ok-read_action.ensures.tokens in
    let g : c.in-Some.action.end ≡ c.args.at + 2 + total ls + 2 = rw c.in-Some.is at c.in_ok-read_action.ensures.end in
    let h : c.in-Some.action.end ≤ length c.args.text.now = rw (c.in-Some.is, c.as_bytes-bytes.ensures.value) at c.in_ok-read_action.ensures.within in
    let k : c.in-Some.action.end ≡ c.args.at + (total ls + 4) = omega arith in
    action_stops c.args.from.now c.args.text.now c.args.state c.args.at c.requires.within ls c.in-Some.action.end e f k h c.in-Err.refusal (steps_as c.args.from.now c.args.text.now c.args.state (action_at c.args.at ls) _ _ c.in-Err.is c.step.ensures)
