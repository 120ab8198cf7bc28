use Rattle.std.proofs.Common.{◌≤◌, length, ap, arith}
use Rattle.std.proofs.Math.Nat.{div-add-mod}
use Rattle.lf_classes.proofs.WordLists.{length_bits, any_seen, none_seen}
use Rattle.lf_classes.proofs.bits.Bits.any.Goals as goal

pub has_any-requires : goal.has_any-requires
has_any-requires c =
    let b = c.self.inside in
    let fit : c.args.to ≤ b.len = omega (arith, ap length c.self.view_is, length_bits b.words.items b.len) in
    record {
      within = omega (arith, fit, c.self.invariant.filled, ap length c.as_slice.ensures.value, div-add-mod b.len 64);
      small = omega (arith, fit, c.self.invariant.small);
    }

pub returns : goal.returns
returns c =
    let b = c.self.inside in
    let fit : c.args.to ≤ b.len = omega (arith, ap length c.self.view_is, length_bits b.words.items b.len) in
    record {
      some = λ e. any_seen b.words.items c.as_slice.result.now b.len _ c.args.from c.args.to fit c.as_slice.ensures.value c.self.view_is (c.has_any.ensures.some e);
      none = λ e. none_seen b.words.items c.as_slice.result.now b.len _ c.args.from c.args.to fit c.as_slice.ensures.value c.self.view_is (c.has_any.ensures.none e);
    }
