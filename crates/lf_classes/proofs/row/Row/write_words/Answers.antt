use Rattle.std.proofs.Common.{◌≡◌, ◌*◌, length, take, drop, sym, ◌∙◌, ap}
use Rattle.lf_classes.specs.RowWords.{in_order, number_of, row_word, words_for}
use Rattle.lf_classes.specs.views.Cut.{cut, shown}
use Rattle.lf_classes.proofs.RowWords.{cut_in_order, empty_word}
use Rattle.lf_classes.proofs.row.Row.write_words.Goals as goal

pub write_words-requires : goal.write_words-requires
write_words-requires c =
    let r = c.self.inside in
    let bits : in_order c.args.self.now ≡ r.bits = ap in_order (sym c.self.view_is ∙ ap (λ live. shown live (cut r.shape r.bits)) c.if-self.true) ∙ cut_in_order r.shape r.bits c.self.invariant.total in
    c.requires ∙ ap (λ xs. words_for (length xs)) bits

pub returns-then-self-clause-words : goal.returns-then-self-clause-words
returns-then-self-clause-words c k h =
    let r = c.self.inside in
    let bits : in_order c.args.self.now ≡ r.bits = ap in_order (sym c.self.view_is ∙ ap (λ live. shown live (cut r.shape r.bits)) c.if-self.true) ∙ cut_in_order r.shape r.bits c.self.invariant.total in
    c.write_words.ensures.words k h ∙ ap (λ xs. number_of (take 64 (drop (64 * k) xs))) (sym bits)

pub returns-else-self-clause-words : goal.returns-else-self-clause-words
returns-else-self-clause-words c k h =
    let r = c.self.inside in
    c.clear.ensures.clear k h ∙ empty_word (cut r.shape r.bits) k ∙ ap (λ row. row_word row k) (ap (λ live. shown live (cut r.shape r.bits)) (sym c.if-self.false) ∙ c.self.view_is)
