use Rattle.std.proofs.Common.{◌∙◌, ap, drop, ℕ, List, not, eqb, ◌≡◌}
use Rattle.std.specs.List.{prefix_len}
use Rattle.lf_lex.proofs.Ascii.{string_start, string_end}
use Rattle.lf_lex.proofs.Fronts.{raw_closed}
use Rattle.lf_lex.proofs.step.raw.Goals as goal

pub part-requires-clause-start : goal.part-requires-clause-start
part-requires-clause-start c = string_start c.args.text.now c.args.at c.utf8.text c.requires.within c.requires.quote

pub part-requires-clause-end : goal.part-requires-clause-end
part-requires-clause-end c =
    let e : c.after-rest.result.now ≡ drop 1 (drop c.args.at c.args.text.now) = c.after-rest.ensures ∙ ap (λ (x : List ℕ). drop 1 x) c.here.ensures.value in
    string_end c.args.text.now c.args.at c.utf8.text c.requires.within c.prefix_len-len.result (c.prefix_len-len.ensures.value ∙ ap (prefix_len (λ b. not (eqb b 96))) e) (rw e at c.if-len-rest.true)

pub returns-in_ok-text-clause-told : goal.returns-in_ok-text-clause-told
returns-in_ok-text-clause-told c =
    let e : c.after-rest.result.now ≡ drop 1 (drop c.args.at c.args.text.now) = c.after-rest.ensures ∙ ap (λ (x : List ℕ). drop 1 x) c.here.ensures.value in
    raw_closed c.args.from.now c.args.at c.prefix_len-len.result c.args.text.now c.in_ok-text.text (c.prefix_len-len.ensures.value ∙ ap (prefix_len (λ b. not (eqb b 96))) e) (rw e at c.if-len-rest.true) c.in_ok-text.ensures
