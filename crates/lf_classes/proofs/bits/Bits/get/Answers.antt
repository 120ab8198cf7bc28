use Rattle.std.proofs.Common.{◌<◌, ◌/◌, ◌%◌, eqb, false, length, get_or, sym, ◌∙◌, ap, arith}
use Rattle.std.specs.Int.{bit_at}
use Rattle.std.proofs.lemmas.List.{get_or_read}
use Rattle.std.proofs.lemmas.Nat.Bits.{shr_and_one}
use Rattle.std.proofs.Math.Nat.{div-add-mod}
use Rattle.lf_classes.proofs.WordLists.{length_bits, get_bits}
use Rattle.lf_classes.proofs.bits.Bits.get.Goals as goal

pub index-requires : goal.index-requires
index-requires c =
    let b = c.self.inside in
    omega (arith, ap length c.self.view_is, length_bits b.words.items b.len, c.self.invariant.filled, b.words.ok.0, div-add-mod c.args.k 64)

pub returns : goal.returns
returns c =
    let b = c.self.inside in
    let k = c.args.k in
    let h : k < b.len = omega (arith, ap length c.self.view_is, length_bits b.words.items b.len) in
    let n : k / 64 < length b.words.items = omega (arith, c.self.invariant.filled, div-add-mod k 64) in
    let read = get_or_read b.words.items (k / 64) c.index.result.now n c.index.ensures 0 in
    ap (λ x. eqb x 1) (shr_and_one c.index.result.now (k % 64) ∙ ap (λ x. bit_at x (k % 64)) read)
    ∙ sym (get_bits b.words.items b.len k false h) ∙ ap (λ x. get_or x k false) c.self.view_is
