use Rattle.std.proofs.Common.{◌≡◌, ◌+◌, ◌∷◌, ◌∙◌, drop, get_or, string_bytes, ap, refl, rules}
use Rattle.std.proofs.lemmas.List.{at_drop_more}
use Rattle.lf_words.specs.Lint.{nothing, Word}
use Rattle.lf_words.specs.views.Commands.{texts_of}
use Rattle.lf_words.proofs.Onward.{stands_on, stops}
use Rattle.lf_words.proofs.seen.seen_in.Goals as goal

pub loop-word-init : goal.loop-word-init
loop-word-init c = (nothing, record { workers = refl; format = refl; labels = refl; file = refl }, λ last. ((λ d. d), (λ d. d)))

pub loop-word-preserved : goal.loop-word-preserved
loop-word-preserved c =
    let words = c.args.words.now in
    let at = c.loop-word.word-index in
    let others = texts_of (drop (at + 1) words) in
    let is : string_bytes (get_or words at c.word-item.result) ≡ c.deref.result.now = search rules in
    let left = at_drop_more texts_of words at c.word-item.result (search rules) ∙ ap (λ (w : Word). w ∷ others) is in
    stands_on left c.loop-word.invariant (c.in_ok-seen.ensures.some others)

pub returns-in_err-seen-clause-none : goal.returns-in_err-seen-clause-none
returns-in_err-seen-clause-none c =
    let words = c.args.words.now in
    let at = c.loop-word.word-index in
    let others = texts_of (drop (at + 1) words) in
    let is : string_bytes (get_or words at c.word-item.result) ≡ c.deref.result.now = search rules in
    let left = at_drop_more texts_of words at c.word-item.result (search rules) ∙ ap (λ (w : Word). w ∷ others) is in
    rw c.from_residual.ensures (stops left c.loop-word.invariant (c.in_err-seen.ensures.none others))
