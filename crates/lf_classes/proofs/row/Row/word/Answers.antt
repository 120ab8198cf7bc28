use Rattle.std.proofs.Common.{◌≡◌, ◌*◌, length, take, drop, sym, ◌∙◌, ap, arith}
use Rattle.lf_classes.specs.RowWords.{in_order, number_of, row_word}
use Rattle.lf_classes.specs.views.Cut.{cut, shown}
use Rattle.lf_classes.proofs.RowWords.{cut_in_order, empty_word, word_within}
use Rattle.lf_classes.proofs.row.Row.word.Goals as goal

pub returns-then-not-self : goal.returns-then-not-self
returns-then-not-self c =
    let r = c.self.inside in
    empty_word (cut r.shape r.bits) c.args.k ∙ ap (λ row. row_word row c.args.k) (ap (λ live. shown live (cut r.shape r.bits)) (sym c.if-not-self.true) ∙ c.self.view_is)

pub word-requires : goal.word-requires
word-requires c =
    let r = c.self.inside in
    let bits : in_order c.args.self.now ≡ r.bits = ap in_order (sym c.self.view_is ∙ ap (λ live. shown live (cut r.shape r.bits)) c.if-not-self.false) ∙ cut_in_order r.shape r.bits c.self.invariant.total in
    omega (arith, word_within c.args.k (length (in_order c.args.self.now)) c.requires, ap length bits)

pub returns : goal.returns
returns c =
    let r = c.self.inside in
    let bits : in_order c.args.self.now ≡ r.bits = ap in_order (sym c.self.view_is ∙ ap (λ live. shown live (cut r.shape r.bits)) c.if-not-self.false) ∙ cut_in_order r.shape r.bits c.self.invariant.total in
    c.word.ensures ∙ ap (λ xs. number_of (take 64 (drop (64 * c.args.k) xs))) (sym bits)
