use Rattle.std.proofs.Common.{◌<◌, ◌≤◌, ◌*◌, ◌/◌, length, ◌∙◌, ap, arith}
use Rattle.std.proofs.Math.ListN.{set}
use Rattle.std.proofs.lemmas.List.{get_or_read}
use Rattle.std.proofs.Math.Nat.{div-add-mod}
use Rattle.lf_classes.specs.views.Bits.{bit}
use Rattle.lf_classes.proofs.WordLists.{length_bits, set_bits}
use Rattle.lf_classes.proofs.bits.Bits.set.Goals as goal

pub index-word-requires : goal.index-word-requires
index-word-requires c =
    let b = c.self.inside in
    omega (arith, ap length c.self.view_is, length_bits b.words.items b.len, c.self.invariant.filled, b.words.ok.0, div-add-mod c.args.k 64)

pub index_mut-requires : goal.index_mut-requires
index_mut-requires c =
    let b = c.self.inside in
    omega (arith, ap length c.self.view_is, length_bits b.words.items b.len, c.self.invariant.filled, b.words.ok.0, div-add-mod c.args.k 64)

pub returns : goal.returns
returns c =
    let b = c.self.inside in
    let k = c.args.k in
    let h : k < b.len = omega (arith, ap length c.self.view_is, length_bits b.words.items b.len) in
    let n : k / 64 < length b.words.items = omega (arith, c.self.invariant.filled, div-add-mod k 64) in
    let fit : b.len ≤ 64 * length b.words.items = omega (arith, c.self.invariant.filled, div-add-mod b.len 64) in
    let read = get_or_read b.words.items (k / 64) c.index-word.result.now n c.index-word.ensures 0 in
    set_bits b.words.items b.len k c.with_bit.result c.args.on h fit c.with_bit.ensures.same
    (λ i l m. c.with_bit.ensures.others i l m ∙ ap (λ x. bit x i) read)
    ∙ ap (λ x. set x k c.args.on) c.self.view_is
