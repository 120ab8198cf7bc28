use Rattle.std.proofs.Common.{◌≤◌, ◌<◌, ◌^◌, Err, ◌∙◌, sym, refl, true≢false, rules, arith}
use Rattle.lf_words.proofs.Numbers.{parsed_number, number_begins, parsed_one, parsed_none}
use Rattle.lf_words.proofs.number.number.Goals.{then-begins_with-via-then-begins_with, then-begins_with-via-else-begins_with+then-begins_with-2}
use Rattle.lf_words.proofs.number.number.Goals as goal

pub returns-then-begins_with-clause-none : goal.returns-then-begins_with-clause-none
returns-then-begins_with-clause-none c = λ n i.
    let fits : c.args.most < 2 ^ 32 = omega (arith, c.ranges.most.fits) in
    let plus = number_begins fits i 43 (omega arith) in
    let nought = number_begins fits i 48 (omega arith) in
    elim c.then-begins_with.branch [
      | then-begins_with-via-then-begins_with w ↦ absurd (true≢false (sym w.if-begins_with.true ∙ c.begins_with.ensures ∙ plus))
      | then-begins_with-via-else-begins_with+then-begins_with-2 w ↦ absurd (true≢false (sym w.if-begins_with-2.true ∙ w.begins_with-else-begins_with.ensures ∙ nought))
    ]

pub returns-in-Ok-clause-some : goal.returns-in-Ok-clause-some
returns-in-Ok-clause-some c = parsed_number c.args.most c.args.word.now c.in-Ok.n c.parse.result (search rules) (search rules) c.parse.ensures.value.0 (search rules) (search rules)

pub returns-in_default-clause-none : goal.returns-in_default-clause-none
returns-in_default-clause-none c = λ n i.
    let fits : c.args.most < 2 ^ 32 = omega (arith, c.ranges.most.fits) in
    let same = parsed_one c.parse.result c.in-Ok.n fits i c.parse.ensures.value.0 (search rules) in
    let le : c.in-Ok.n ≤ c.args.most = omega (arith, same, i.most) in
    absurd (search (rules, le))

pub returns-in_default-2-clause-none : goal.returns-in_default-2-clause-none
returns-in_default-2-clause-none c = λ n i.
    let fits : c.args.most < 2 ^ 32 = omega (arith, c.ranges.most.fits) in
    parsed_none (Err c.in_default.field-0) c.in_default.field-0 fits i c.in_default.ensures.value.0 refl
