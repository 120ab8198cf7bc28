use Rattle.std.proofs.Common.{◌≡◌, length, ap, arith}
use Rattle.std.proofs.Math.Nat.{div-add-mod}
use Rattle.lf_classes.proofs.WordLists.{all_seen, lacks_seen, length_bits}
use Rattle.lf_classes.proofs.bits.Bits.lies_in.Goals as goal

pub has_all-requires : goal.has_all-requires
has_all-requires c =
    let b = c.self.inside in
    let o = c.other.inside in
    let same : o.len ≡ b.len = omega (arith, c.requires, ap length c.self.view_is, ap length c.other.view_is, length_bits b.words.items b.len, length_bits o.words.items o.len) in
    record {
      same = omega (arith, same, c.self.invariant.filled, c.other.invariant.filled, ap length c.as_slice.ensures.value, ap length c.as_slice-2.ensures.value);
      within = omega (arith, c.self.invariant.filled, ap length c.as_slice.ensures.value, div-add-mod b.len 64);
      small = c.self.invariant.small;
    }

pub returns : goal.returns
returns c =
    let b = c.self.inside in
    let o = c.other.inside in
    let same : o.len ≡ b.len = omega (arith, c.requires, ap length c.self.view_is, ap length c.other.view_is, length_bits b.words.items b.len, length_bits o.words.items o.len) in
    record {
      all = λ e. all_seen b.words.items c.as_slice.result.now o.words.items c.as_slice-2.result.now b.len o.len _ _ c.as_slice.ensures.value c.as_slice-2.ensures.value c.self.view_is c.other.view_is same (c.has_all.ensures.all e);
      lacks = λ e. lacks_seen b.words.items c.as_slice.result.now o.words.items c.as_slice-2.result.now b.len o.len _ _ c.as_slice.ensures.value c.as_slice-2.ensures.value c.self.view_is c.other.view_is same (c.has_all.ensures.lacks e);
    }
