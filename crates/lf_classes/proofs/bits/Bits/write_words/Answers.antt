use Rattle.std.proofs.Common.{◌≡◌, ◌+◌, ◌*◌, ◌/◌, ◌<◌, ℕ, length, get_or, set, take, drop, inl, inr, sym, ◌∙◌, ap, subst, arith, get_or-set_same, get_or-set_other, length-set}
use Rattle.std.proofs.Math.Nat.{div-add-mod}
use Rattle.std.proofs.lemmas.Bool.{cases_eq}
use Rattle.std.proofs.lemmas.List.{get_or-take, length-take-le}
use Rattle.lf_classes.specs.RowWords.{number_of}
use Rattle.lf_classes.proofs.WholeWords.{whole_word}
use Rattle.lf_classes.proofs.WordLists.{length_bits}
use Rattle.lf_classes.proofs.bits.Bits.write_words.Goals as goal

pub slice_bounds-copy_from_slice-end : goal.slice_bounds-copy_from_slice-end
slice_bounds-copy_from_slice-end c =
    let b = c.self.inside in
    sym (length-take-le c.len-count.result c.as_slice.result.now (omega (arith, ap length c.as_slice.ensures.value, c.len-count.ensures, c.args.into.now.ok.0, c.requires, ap length c.self.view_is, length_bits b.words.items b.len, c.self.invariant.filled, div-add-mod b.len 64, div-add-mod (b.len + 63) 64)))

pub copy_from_slice-requires : goal.copy_from_slice-requires
copy_from_slice-requires c =
    let b = c.self.inside in
    sym c.len-count.ensures ∙ sym (length-take-le c.len-count.result c.as_slice.result.now (omega (arith, ap length c.as_slice.ensures.value, c.len-count.ensures, c.args.into.now.ok.0, c.requires, ap length c.self.view_is, length_bits b.words.items b.len, c.self.invariant.filled, div-add-mod b.len 64, div-add-mod (b.len + 63) 64)))

pub returns-then-whole-count-clause-words : goal.returns-then-whole-count-clause-words
returns-then-whole-count-clause-words c k h =
    let b = c.self.inside in
    let whole = b.len / 64 in
    let items = c.copy_from_slice.new.self.items in
    let count : length items ≡ c.len-count.result = omega (arith, c.copy_from_slice.new.self.ok.0, c.copy_from_slice.ensures.len, c.len-count.ensures) in
    let less : k < c.len-count.result = omega (arith, h, c.len-count.ensures, c.args.into.now.ok.0) in
    let W : ℕ → Type 0 = λ j. get_or (set items whole c.word.result) j 0 ≡ number_of (take 64 (drop (64 * j) c.args.self.now)) in
    elim (cases_eq k whole) [
      | inl e ↦ subst W (sym e) (get_or-set_same items whole c.word.result 0 (omega (arith, c.if-whole-count.true, count)) ∙ c.word.ensures)
      | inr n ↦ whole_word b.words.items b.len k c.args.self.now c.self.view_is
          (omega (arith, n, h, c.requires, ap length c.self.view_is, length_bits b.words.items b.len, div-add-mod b.len 64, div-add-mod (b.len + 63) 64))
          (get_or (set items whole c.word.result) k 0) (c.type_inv.into k 0 (omega (arith, less, count, length-set items whole c.word.result)))
          (get_or-set_other items whole k c.word.result 0 n ∙ ap (λ xs. get_or xs k 0) c.copy_from_slice.ensures.items ∙ get_or-take c.len-count.result c.as_slice.result.now k 0 less ∙ ap (λ xs. get_or xs k 0) c.as_slice.ensures.value)
    ]

pub returns-else-whole-count-clause-words : goal.returns-else-whole-count-clause-words
returns-else-whole-count-clause-words c k h =
    let b = c.self.inside in
    let items = c.copy_from_slice.new.self.items in
    let count : length items ≡ c.len-count.result = omega (arith, c.copy_from_slice.new.self.ok.0, c.copy_from_slice.ensures.len, c.len-count.ensures) in
    let less : k < c.len-count.result = omega (arith, h, c.len-count.ensures, c.args.into.now.ok.0) in
    whole_word b.words.items b.len k c.args.self.now c.self.view_is
    (omega (arith, less, c.if-whole-count.false, div-add-mod b.len 64))
    (get_or items k 0) (c.type_inv.into k 0 (omega (arith, less, count)))
    (ap (λ xs. get_or xs k 0) c.copy_from_slice.ensures.items ∙ get_or-take c.len-count.result c.as_slice.result.now k 0 less ∙ ap (λ xs. get_or xs k 0) c.as_slice.ensures.value)
