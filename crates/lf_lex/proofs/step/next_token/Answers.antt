use Rattle.std.proofs.Common.{◌∙◌, ap, sym, arith, not, get_or, ◌≡◌, ℕ, List}
use Rattle.std.specs.List.{prefix_len}
use Rattle.lf_lex.specs.Bytes.{is_line_break}
use Rattle.lf_lex.proofs.Ascii.{first_drop}
use Rattle.lf_lex.proofs.Fronts.{comment_some}
use Rattle.lf_lex.proofs.step.next_token.Goals as goal

pub returns-then-first-eq35-clause-within : goal.returns-then-first-eq35-clause-within
returns-then-first-eq35-clause-within c =
    let e = c.prefix_len.ensures.value ∙ ap (prefix_len (λ b. not (is_line_break b))) c.here-rest.ensures.value in
    let f : get_or c.args.text.now c.args.at 0 ≡ 35 = sym (first_drop c.args.text.now c.args.at) ∙ ap (λ (x : List ℕ). get_or x 0 0) (sym c.here-rest.ensures.value) ∙ c.if-first-eq35.true in
    let some = comment_some c.args.text.now c.args.at c.requires.within f in
    (omega arith, omega arith)
