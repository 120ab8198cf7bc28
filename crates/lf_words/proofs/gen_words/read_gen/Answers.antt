use Rattle.std.proofs.Common.{◌≡◌, ℕ, List, None, Some, codes, subst, sym, ◌∙◌, rules}
use Rattle.std.proofs.lemmas.Option.{none-some, same_Some}
use Rattle.std.proofs.lemmas.Result.{err_from_is_err_and}
use Rattle.lf_words.specs.Grammar.{IsDecimal}
use Rattle.lf_words.specs.views.Commands.{gen_app, first_value, texts_of}
use Rattle.lf_words.proofs.Asked.{found_gen, made_gen}
use Rattle.lf_words.proofs.gen_words.read_gen.Goals as goal

pub returns-in_err-find-clause-refused : goal.returns-in_err-find-clause-refused
returns-in_err-find-clause-refused c =
    let p = err_from_is_err_and c.from_residual.result c.from_residual.ensures.1 in
    rw (p.1, p.2) (λ e options asks. c.in_err-find.ensures.refused e (found_gen asks c.requires).taken)

pub returns-in-None-clause-refused : goal.returns-in-None-clause-refused
returns-in-None-clause-refused c = λ e options asks.
    let f = found_gen asks c.requires in
    let none : None ≡ first_value gen_app (codes "n") (texts_of c.args.words.now) = search rules in
    absurd (none-some _ (none ∙ f.found))

pub returns-in-None-number-clause-refused : goal.returns-in-None-number-clause-refused
returns-in-None-number-clause-refused c = λ e options asks.
    let f = found_gen asks c.requires in
    let some : Some c.in-Some.word.now ≡ first_value gen_app (codes "n") (texts_of c.args.words.now) = search rules in
    let B : List ℕ → Type 0 = λ w. IsDecimal 4000 w f.n in
    c.in-None-number.ensures.none f.n (subst B (sym (same_Some _ _ (some ∙ f.found))) f.is_number)

pub returns-in-Some-number-clause-asked : goal.returns-in-Some-number-clause-asked
returns-in-Some-number-clause-asked c =
    made_gen c.args.words.now c.requires (search rules) c.in_ok-find.ensures.taken (search rules) c.in-Some-number.ensures.some
