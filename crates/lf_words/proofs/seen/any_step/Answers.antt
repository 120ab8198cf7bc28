use Rattle.std.proofs.Common.{[], ◌∷◌, sym, subst, rules, ◌∙◌}
use Rattle.lf_words.specs.Lint.{with_labels, with_files, with_value}
use Rattle.lf_words.specs.views.Asking.{named, begun}
use Rattle.lf_words.specs.declared.seen.Next.{Next}
use Rattle.lf_words.proofs.Onward.{Same, same_labels, same_file, same_joined, keeps_file, keeps_labels, value_leads}
use Rattle.lf_words.proofs.seen.any_step.Goals as goal

pub returns-in-Labels-2-clause-some : goal.returns-in-Labels-2-clause-some
returns-in-Labels-2-clause-some c = λ words given k.
    let more = with_labels given in
    let word = c.args.word.now in
    let P : Next → Type 0 = λ n. Same given (begun n (word ∷ words)) more (begun n words) in
    (more, keeps_labels k, subst P (sym c.requires) (same_labels given word words (search rules) (sym k.labels ∙ c.if-seen.false)))

pub returns-in-Joined-clause-some : goal.returns-in-Joined-clause-some
returns-in-Joined-clause-some c =
    let option = named c.in-Joined.option in
    let w = c.with_value.ensures in
    let word = c.args.word.now in
    let value = c.in-Joined.value.now in
    value_leads c.args.seen option value word c.with_value.result w.once w.kept w.next (λ given words none.
    let P : Next → Type 0 = λ n. Same given (begun n (word ∷ words)) (with_value option value given) words in
    subst P (sym c.requires) (same_joined option given word value words (search rules) none))

pub returns-in-File-clause-some : goal.returns-in-File-clause-some
returns-in-File-clause-some c = λ words given k.
    let word = c.args.word.now in
    let more = with_files (word ∷ []) given in
    let P : Next → Type 0 = λ n. Same given (begun n (word ∷ words)) more (begun n words) in
    (more, keeps_file word k, subst P (sym c.requires) (same_file given word words (search rules)))
