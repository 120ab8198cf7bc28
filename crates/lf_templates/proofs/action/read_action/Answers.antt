use Rattle.std.proofs.Common.{sym, ap, ◌∙◌, arith, ◌≡◌, ◌++◌, [], ◌∷◌, drop, Some, None, true, false, length-drop}
use Rattle.lf_templates.specs.Tokens.{closes}
use Rattle.lf_templates.specs.reading.Templates.{front}
use Rattle.lf_templates.proofs.Braces.{lexed_closes, lexed_none, lexed_end, front_some, behind_tokens, behind_none, behind_closes, same_on, end_on, within_on, named_on}
use Rattle.lf_templates.proofs.action.read_action.Goals as goal

pub loop-at-init : goal.loop-at-init
loop-at-init c = rw c.new-tokens.ensures.items (record { same = behind_none _; end = omega arith; within = c.requires; named = tt })

pub returns-then-closes-clause-tokens : goal.returns-then-closes-clause-tokens
returns-then-closes-clause-tokens c =
    let e : closes (drop c.loop-at.at c.args.bytes.now) ≡ true = sym (ap closes c.after-rest.ensures) ∙ sym c.closes.ensures ∙ c.if-closes.true in
    sym (behind_closes c.loop-at.tokens.items) ∙ ap (behind_tokens c.loop-at.tokens.items) (sym (lexed_closes c.loop-at.place (drop c.loop-at.at c.args.bytes.now) e)) ∙ c.loop-at.invariant.same

pub returns-in-None-clause-tokens : goal.returns-in-None-clause-tokens
returns-in-None-clause-tokens c =
    let e : closes (drop c.loop-at.at c.args.bytes.now) ≡ false = sym (ap closes c.after-rest.ensures) ∙ sym c.closes.ensures ∙ c.if-closes.false in
    let f : front c.loop-at.place (drop c.loop-at.at c.args.bytes.now) ≡ None = sym (ap (front c.loop-at.place) c.after-rest.ensures) ∙ sym c.front.ensures ∙ c.in-None.is in
    ap (behind_tokens c.loop-at.tokens.items) (sym (lexed_none c.loop-at.place (drop c.loop-at.at c.args.bytes.now) e f)) ∙ c.loop-at.invariant.same

pub overflow_add-at : goal.overflow_add-at
overflow_add-at c =
    let f : front c.loop-at.place (drop c.loop-at.at c.args.bytes.now) ≡ Some c.in-Some.lexeme = sym (ap (front c.loop-at.place) c.after-rest.ensures) ∙ sym c.front.ensures ∙ c.in-Some.is in
    let some = front_some c.loop-at.place (drop c.loop-at.at c.args.bytes.now) c.in-Some.lexeme f in
    let d = length-drop c.loop-at.at c.args.bytes.now in
    omega (arith, some.1)

pub loop-at-smaller : goal.loop-at-smaller
loop-at-smaller c =
    let f : front c.loop-at.place (drop c.loop-at.at c.args.bytes.now) ≡ Some c.in-Some.lexeme = sym (ap (front c.loop-at.place) c.after-rest.ensures) ∙ sym c.front.ensures ∙ c.in-Some.is in
    let some = front_some c.loop-at.place (drop c.loop-at.at c.args.bytes.now) c.in-Some.lexeme f in
    let d = length-drop c.loop-at.at c.args.bytes.now in
    let lt = c.loop-at-test.true in
    omega (arith, some.0, some.1)

pub loop-at-preserved : goal.loop-at-preserved
loop-at-preserved c =
    let e : closes (drop c.loop-at.at c.args.bytes.now) ≡ false = sym (ap closes c.after-rest.ensures) ∙ sym c.closes.ensures ∙ c.if-closes.false in
    let f : front c.loop-at.place (drop c.loop-at.at c.args.bytes.now) ≡ Some c.in-Some.lexeme = sym (ap (front c.loop-at.place) c.after-rest.ensures) ∙ sym c.front.ensures ∙ c.in-Some.is in
    let items : c.push.new.self.items ≡ c.loop-at.tokens.items ++ c.in-Some.lexeme ∷ [] = c.in_ok-push-in-Some.ensures.items in
    record {
      same = same_on c.args.bytes.now c.args.start c.loop-at.at c.loop-at.place c.loop-at.tokens.items c.in-Some.lexeme c.push.new.self.items c.behind-place.result items c.behind-place.ensures e f _ c.loop-at.invariant.same;
      end = end_on c.args.bytes.now c.args.start c.loop-at.at c.loop-at.place c.loop-at.tokens.items c.in-Some.lexeme c.push.new.self.items c.behind-place.result items c.behind-place.ensures e f c.loop-at.invariant.end;
      within = within_on c.args.bytes.now c.args.start c.loop-at.at c.loop-at.place c.loop-at.tokens.items c.in-Some.lexeme c.push.new.self.items c.behind-place.result items c.behind-place.ensures e f c.loop-at.invariant.within;
      named = named_on c.args.bytes.now c.args.start c.loop-at.at c.loop-at.place c.loop-at.tokens.items c.in-Some.lexeme c.push.new.self.items c.behind-place.result items c.behind-place.ensures e f c.loop-at.invariant.end c.loop-at.invariant.named;
    }

pub returns-clause-tokens : goal.returns-clause-tokens
returns-clause-tokens c = ap (behind_tokens c.loop-at.tokens.items) (sym (lexed_end c.loop-at.place c.loop-at.at c.args.bytes.now c.loop-at-test.false)) ∙ c.loop-at.invariant.same
