use Rattle.std.proofs.Common.{ℕ, ◌+◌, ◌*◌, ◌<◌, length, get_or, false, inl, inr, refl, sym, ◌∙◌, ap, arith}
use Rattle.std.proofs.lemmas.Bool.{cases_lt}
use Rattle.std.proofs.lemmas.List.{get_or_read}
use Rattle.std.proofs.Math.Nat.{div-add-mod}
use Rattle.lf_classes.specs.views.Bits.{bit}
use Rattle.lf_classes.proofs.RowWords.{number_is}
use Rattle.lf_classes.proofs.WordBits.{zero_off}
use Rattle.lf_classes.proofs.WordLists.{at_place, get_bits, length_bits, past_bits}
use Rattle.lf_classes.proofs.bits.Bits.word.Goals as goal

pub index-requires : goal.index-requires
index-requires c =
    let b = c.self.inside in
    omega (arith, c.requires, ap length c.self.view_is, length_bits b.words.items b.len, c.self.invariant.filled, b.words.ok.0, div-add-mod b.len 64)

pub mask-requires : goal.mask-requires
mask-requires c =
    let b = c.self.inside in
    omega (arith, c.requires, ap length c.self.view_is, length_bits b.words.items b.len, c.self.invariant.small)

pub returns : goal.returns
returns c =
    let b = c.self.inside in
    let n = c.args.number in
    let words = b.words.items in
    let w = c.index.result.now in
    let h : n < length words = omega (arith, c.requires, ap length c.self.view_is, length_bits words b.len, c.self.invariant.filled, div-add-mod b.len 64) in
    let read = get_or_read words n w h c.index.ensures 0 in
    let seen = λ (i : ℕ). ap (λ xs. get_or xs (64 * n + i) false) c.self.view_is in
    number_is c.picked.result c.args.self.now (64 * n) (omega arith)
    (λ i l. elim (cases_lt (64 * n + i) b.len) [
      | inl k ↦ c.picked.ensures.inside i l (c.mask.ensures.inside i l (omega arith) k) ∙ ap (λ x. bit x i) read ∙ sym (at_place words n i l) ∙ sym (get_bits words b.len (64 * n + i) false k) ∙ seen i
      | inr k ↦ c.picked.ensures.outside i l (c.mask.ensures.above i l k) ∙ zero_off 0 i refl ∙ sym (past_bits words b.len (64 * n + i) k) ∙ seen i
    ])
