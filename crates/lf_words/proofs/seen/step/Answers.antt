use Rattle.std.proofs.Common.{[], ◌∷◌, sym, subst, rules}
use Rattle.lf_words.specs.Lint.{with_files, with_value}
use Rattle.lf_words.specs.views.Asking.{named, begun}
use Rattle.lf_words.specs.declared.seen.Next.{Next}
use Rattle.lf_words.proofs.Onward.{Same, same_next, same_dashes, keeps_file, value_leads}
use Rattle.lf_words.proofs.seen.step.Goals as goal

pub returns-in-Value-clause-some : goal.returns-in-Value-clause-some
returns-in-Value-clause-some c =
    let option = named c.in-Value.option in
    let w = c.with_value.ensures in
    let word = c.args.word.now in
    value_leads c.args.seen option word word c.with_value.result w.once w.kept w.next (λ given words none.
    let P : Next → Type 0 = λ n. Same given (begun n (word ∷ words)) (with_value option word given) words in
    subst P (sym c.in-Value.is) (same_next option given word words (search rules) none))

pub returns-in-File-clause-some : goal.returns-in-File-clause-some
returns-in-File-clause-some c = λ words given k.
    let word = c.args.word.now in
    let more = with_files (word ∷ []) given in
    let P : Next → Type 0 = λ n. Same given (begun n (word ∷ words)) more (begun n words) in
    (more, keeps_file word k, subst P (sym c.in-File.is) (same_dashes given word words))
